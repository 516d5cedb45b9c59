-- What the definitions say of some versions of installed packages.
use Rattle.std.proofs.Common.{◌≡◌, codes, refl, false}
use lib.Utf8.{encode}
use Rattle.std.proofs.Common.{◌++◌, ◌∷◌, []}
use Rattle.std.specs.Char.{is_ascii_digit}
use Rattle.std.specs.Prelude.{slice_index}
use Rattle.std.specs.Str.{chars}
use Rattle.npm_texts.specs.InstalledVersions.{bare}

pub leads_go : bare (codes " =v\t= v1.2.3") ≡ codes "1.2.3"
unfolding bare chars encode
leads_go = refl

pub white_space_at_the_end_goes : bare (codes "1.2.3-a ") ≡ codes "1.2.3-a"
unfolding bare chars encode
white_space_at_the_end_goes = refl

-- U+00A0 and U+FEFF
pub white_space_outside_ascii_goes : bare (194 ∷ 160 ∷ (codes "v" ++ (239 ∷ 187 ∷ 191 ∷ (codes "1.2.3" ++ (194 ∷ 160 ∷ [])))))
    ≡ codes "1.2.3"
unfolding bare chars encode
white_space_outside_ascii_goes = refl

-- U+2029, the separator of paragraphs
pub separators_of_paragraphs_go : bare (226 ∷ 128 ∷ 169 ∷ (codes "v" ++ (226 ∷ 128 ∷ 169 ∷ (codes "=1.2.3" ++ (226 ∷ 128 ∷ 169 ∷ [])))))
    ≡ codes "1.2.3"
unfolding bare chars encode
separators_of_paragraphs_go = refl

-- U+202A is no white space
pub other_marks_stay : bare (codes "1.2.3" ++ (226 ∷ 128 ∷ 170 ∷ [])) ≡ codes "1.2.3" ++ (226 ∷ 128 ∷ 170 ∷ [])
unfolding bare chars encode
other_marks_stay = refl

pub white_space_inside_stays : bare (codes "1.2.3 +b") ≡ codes "1.2.3 +b"
unfolding bare chars encode
white_space_inside_stays = refl

-- so it is no version
pub a_capital_stays : is_ascii_digit (slice_index (bare (codes "V1.2.3")) 0) ≡ false
unfolding bare chars encode
a_capital_stays = refl
