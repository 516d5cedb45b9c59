-- What the definitions say of some specs, tags, and ranges that ask for any version.
use Rattle.std.proofs.Common.{◌≡◌, ℕ, List, [], ◌∷◌, Bool, Option, true, false, codes, map, refl, Some, None}
use lib.Utf8.{encode}
use Rattle.std.specs.Str.{chars, trim_end, trim_start}
use Rattle.npm_texts.specs.RangeText.{SpecValue, aliased_name, in_registry, is_tag, location, refused, spec_of}
use Rattle.npm_lock.specs.Verdict.{asks_for_any}

abbrev specs : List (List ℕ × SpecValue)
specs = (codes "^1.2", in_registry (codes "^1.2")) ∷ (codes "", in_registry (codes "*"))
    ∷ (codes "npm:@s/a@^1", in_registry (codes "^1")) ∷ (codes "NPM:a@", in_registry (codes "*")) ∷ (codes "npm:2", in_registry (codes "*"))
    -- npm reads the first as the empty range, which admits no prerelease, and not as `*`; and `^2` is no name
    ∷ (codes "npm:", in_registry (codes "")) ∷ (codes "npm:^2", in_registry (codes "^2"))
    ∷ (codes "npm:a@github:b/c", refused) ∷ (codes "npx:a@^1", location) ∷ (codes "github:a/b", location) ∷ (codes ".", location)
    ∷ (codes "git@gist.github.com:11081aaa281", location) ∷ (codes "git+ssh:a", location) ∷ (codes "workspace:*", location)
    -- a `:` makes a URL only after a scheme
    ∷ (codes "^1 || workspace:*", in_registry (codes "^1 || workspace:*")) ∷ (codes "hg+ssh:a", in_registry (codes "hg+ssh:a"))
    ∷ (codes ":a", in_registry (codes ":a")) ∷ (codes "a-1.0.0.tgz", location) ∷ (codes "a-1.0.0.tar.gz", location)
    ∷ (codes "a.tgz2", in_registry (codes "a.tgz2")) ∷ []

pub they_are_so : map (λ row. spec_of row.0) specs ≡ map (λ row. row.1) specs
they_are_so = refl

abbrev names : List (List ℕ × Option (List ℕ))
names = (codes "npm:a@^1", Some (codes "a")) ∷ (codes "NPM:@s/a@^1", Some (codes "@s/a")) ∷ (codes "npm:@s/a", Some (codes "@s/a"))
    ∷ (codes "npm:^1", None) ∷ (codes "npm:a@github:b/c", None) ∷ []

pub names_of_aliases : map (λ row. aliased_name row.0) names ≡ map (λ row. row.1) names
names_of_aliases = refl

-- `encodeURIComponent` of JavaScript leaves the bytes of the first
abbrev tags : List (List ℕ × Bool)
tags = (codes "aZ09-_.!~*'()", true) ∷ (codes " latest ", true) ∷ (codes "^1", false) ∷ (codes "a[1]", false) ∷ (codes "a:1", false) ∷ []

pub texts_of_tags : map (λ row. is_tag row.0) tags ≡ map (λ row. row.1) tags
unfolding trim_start trim_end chars encode
texts_of_tags = refl

pub white_space_does_not_count : asks_for_any (codes " * ") ≡ true
unfolding trim_start trim_end chars encode
white_space_does_not_count = refl
