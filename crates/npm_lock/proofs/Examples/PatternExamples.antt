-- What the grammar of patterns says of some patterns and paths, by hand.
use Rattle.std.proofs.Common.{◌≡◌, ◌∷◌, [], codes, refl}
use Rattle.npm_lock.specs.PatternGrammar.{IsRead, Matches, below, by_star, by_stars, end, itself, one_star, parts_of, plain_part}

pub two_parts : parts_of (codes "packages/*") ≡ codes "packages" ∷ codes "*" ∷ []
two_parts = refl

pub a_star_is_read : IsRead (parts_of (codes "packages/*"))
a_star_is_read = below (codes "packages") (codes "*") [] refl one_star

pub a_star_matches_one_part : Matches (parts_of (codes "packages/*")) (parts_of (codes "packages/a"))
a_star_matches_one_part = itself (codes "packages") _ _ (by_star (codes "a") (λ is. cc is) (λ is. cc is))

pub stars_match_no_part : Matches (parts_of (codes "packages/**")) (parts_of (codes "packages"))
stars_match_no_part = itself (codes "packages") _ _ (by_stars [] (λ is. cc is) tt)

pub stars_match_two_parts : Matches (parts_of (codes "packages/**")) (parts_of (codes "packages/a/b"))
stars_match_two_parts =
    itself (codes "packages") _ _ (by_stars (codes "a" ∷ codes "b" ∷ []) (λ is. cc is) ((λ is. cc is), ((λ is. cc is), tt)))

pub a_plain_part_is_read : IsRead (parts_of (codes "a/b"))
a_plain_part_is_read = below (codes "a") (codes "b") [] refl (plain_part (codes "b") (λ is. cc is) refl)

pub a_plain_part_matches_itself : Matches (parts_of (codes "w")) (parts_of (codes "w"))
a_plain_part_matches_itself = itself (codes "w") _ _ end
