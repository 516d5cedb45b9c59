-- What the addresses of some tarballs say.
use Rattle.std.proofs.Common.{◌≡◌, ℕ, List, [], ◌∷◌, None, Some, codes, map, refl}
use Rattle.std.specs.Path.{rsplit_once}
use Rattle.std.specs.Prelude.{Option, option_map}
use Rattle.npm_lock.specs.Tarballs.{name_text, tarball_at}

-- the name and the version that an address says of the package in this folder
abbrev said : (address folder : List ℕ) → Option (List ℕ × List ℕ)
said address folder = option_map (λ tarball. (name_text tarball.name, tarball.version)) (tarball_at address folder)

-- a registry says the name; elsewhere it is that of the folder, and the file must have it
abbrev rows : List (List ℕ × List ℕ × Option (List ℕ × List ℕ))
rows = (codes "https://r/npm/lodash/-/lodash-4.17.11.tgz", codes "node_modules/b", Some (codes "lodash", codes "4.17.11"))
    ∷ (codes "https://r/@s/a/-/a-1.0.0-b.tgz", codes "node_modules/b", Some (codes "@s/a", codes "1.0.0-b"))
    ∷ (codes "https://r/@s%2fa/-/a-1.0.0.tgz", codes "node_modules/b", Some (codes "@s/a", codes "1.0.0"))
    ∷ (codes "https://r/a-1.0.0.tgz", codes "c/node_modules/@s/a", Some (codes "@s/a", codes "1.0.0"))
    ∷ (codes "https://r/c-1.0.0.tgz", codes "node_modules/a", None)
    ∷ (codes "file:a-1.0.0.tgz", codes "node_modules/a", Some (codes "a", codes "1.0.0"))
    -- the name before `/-/` is another one: that of the folder may be right
    ∷ (codes "https://r/c/-/a-1.0.0.tgz", codes "node_modules/a", Some (codes "a", codes "1.0.0"))
    -- in doubt the text is no version
    ∷ (codes "https://r/a-x-1.0.0.tgz", codes "node_modules/a", Some (codes "a", codes "x-1.0.0"))
    ∷ (codes "https://r/a/-/a-1.0.0.tar.gz", codes "node_modules/a", None) ∷ []

pub they_say_so : map (λ row. said row.0 row.1) rows ≡ map (λ row. row.2) rows
unfolding rsplit_once
they_say_so = refl
