-- Worked examples: what some texts mean, on both sides. Each is computed over the definitions.
use Rattle.std.proofs.Common.{◌≡◌, ℕ, List, [], ◌∷◌, Some, refl, codes}
use Rattle.semver_sets.specs.Comparator.{above, at_least, below, exactly, with_major}
use Rattle.semver_texts.specs.IdentifierValue.{IdentifierValue, alphanumeric, numeric}
use Rattle.semver_sets.specs.Meaning.{IsRefused, TextAdmits}
use Rattle.semver_texts.specs.Version.{VersionValue, release}
use Rattle.semver_sets.proofs.Examples.RangeComputing.{admits-by, alternatives_in, refused-by}
use Rattle.semver_sets.proofs.Examples.RangeComputing.{turns_away-by, written-by}

-- `1.2.3-rc.4` is `prerelease 1 2 3 (text "rc" ∷ numeric 4 ∷ [])`
abbrev prerelease : ℕ → ℕ → ℕ → List IdentifierValue → VersionValue
prerelease m n p identifiers = record (release m n p) { pre_release = identifiers }

-- `>=1.2.3-rc.4 <2.0.0`
opened : alternatives_in (codes ">=1.2.3-rc.4 <2.0.0")
    ≡ Some ((at_least (prerelease 1 2 3 (alphanumeric (codes "rc") ∷ numeric 4 ∷ [])) ∷ below (release 2 0 0) ∷ [])
    ∷ [])
unfolding alternatives_in
opened = refl

-- `>=1.2.3-rc.4 <2.0.0` admits 1.2.3-rc.5
pub opened-admits : TextAdmits (codes ">=1.2.3-rc.4 <2.0.0")
    (prerelease 1 2 3 (alphanumeric (codes "rc") ∷ numeric 5 ∷ []))
opened-admits = admits-by _ _ _ (written-by _ _ opened) refl

-- `>=1.2.3-rc.4 <2.0.0` does not admit 1.2.4-rc.6, whose triple no end opens
pub opened-turns_away : ¬ TextAdmits (codes ">=1.2.3-rc.4 <2.0.0")
    (prerelease 1 2 4 (alphanumeric (codes "rc") ∷ numeric 6 ∷ []))
opened-turns_away = turns_away-by _ _ _ (written-by _ _ opened) refl

-- `>4.0.0 <3.0.0`
crossed : alternatives_in (codes ">4.0.0 <3.0.0") ≡ Some ((above (release 4 0 0) ∷ below (release 3 0 0) ∷ []) ∷ [])
unfolding alternatives_in
crossed = refl

-- is refused
pub crossed-refused : IsRefused (codes ">4.0.0 <3.0.0")
crossed-refused = refused-by _ _ (written-by _ _ crossed) refl

-- `foo`
pub no_word : alternatives_in (codes "foo") ≡ Some ([] ∷ [])
unfolding alternatives_in
no_word = refl

-- is refused
pub no_word-refused : IsRefused (codes "foo")
no_word-refused = refused-by _ _ (written-by _ _ no_word) refl

-- ---- alternatives

-- `1 || - 10`: without the blank before it, ` - 10` is `-`, which is ignored, and `10`
later_hyphen : alternatives_in (codes "1 || - 10") ≡ Some ((with_major 1 ∷ []) ∷ (with_major 10 ∷ []) ∷ [])
unfolding alternatives_in
later_hyphen = refl

-- `1 || - 10` does not admit 5.0.0
pub later_hyphen-turns_away : ¬ TextAdmits (codes "1 || - 10") (release 5 0 0)
later_hyphen-turns_away = turns_away-by _ _ _ (written-by _ _ later_hyphen) refl

-- `1.2.3-a || >=1`
one_opens : alternatives_in (codes "1.2.3-a || >=1")
    ≡ Some ((exactly (prerelease 1 2 3 (alphanumeric (codes "a") ∷ [])) ∷ []) ∷ (at_least (release 1 0 0) ∷ []) ∷ [])
unfolding alternatives_in
one_opens = refl

-- `1.2.3-a || >=1` does not admit 1.2.3-b: the alternative that opens 1.2.3 is not the one that it lies inside
pub one_opens-turns_away : ¬ TextAdmits (codes "1.2.3-a || >=1") (prerelease 1 2 3 (alphanumeric (codes "b") ∷ []))
one_opens-turns_away = turns_away-by _ _ _ (written-by _ _ one_opens) refl
