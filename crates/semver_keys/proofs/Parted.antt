-- Keys that are the same: their values are, and what follows them.
use Rattle.std.proofs.Common.{◌≡◌, ◌<◌, ◌^◌, ◌++◌, ℕ, List, [], ◌∷◌, refl, sym, ap, ◌∙◌, append_assoc}
use Rattle.std.proofs.lemmas.Cmp.{nat_list_cmp_total}
use Rattle.std.specs.Cmp.{tied_itself}
use Rattle.std.specs.FinMap.{nat_cmp-IsAntisymmetric, slice_cmp-IsAntisymmetric}
use Rattle.std.specs.Ordering.{nat_cmp, ordering_then}
use Rattle.std.specs.declared.cmp.Ordering.{Ordering}
use Rattle.std.specs.declared.cmp.Ordering.TheVariants.{Less, Equal, Greater}
use Rattle.semver_keys.specs.IdentifierKey.{byte_key, text_key}
use Rattle.semver_keys.specs.KeyOrder.{key_cmp}
use Rattle.semver_keys.specs.NumberKey.{number_key}
use Rattle.semver_keys.specs.Private.Reading.{BeginsWithNoByte, written}
use Rattle.semver_keys.specs.Lemmas.NumberOrder.{number-order}
use Rattle.semver_keys.specs.Lemmas.IdentifierOrder.{byte-order}

pub same-tied : (a b : List ℕ) → a ≡ b → key_cmp a b ≡ Equal
same-tied a b e = ap (key_cmp a) (sym e) ∙ tied_itself nat_list_cmp_total a

pub tied-same : (a b : List ℕ) → key_cmp a b ≡ Equal → a ≡ b
tied-same a b e = slice_cmp-IsAntisymmetric nat_cmp-IsAntisymmetric a b e

then-first : (o p : Ordering) → ordering_then o p ≡ Equal → o ≡ Equal
then-first Less p e = e
then-first Equal p e = refl
then-first Greater p e = e

then-second : (o p : Ordering) → ordering_then o p ≡ Equal → p ≡ Equal
then-second Less p e = cc e
then-second Equal p e = e
then-second Greater p e = cc e

-- two keys that are compared by what they are keys of, and then by what follows
pub parted : (a b r s : List ℕ) (o : Ordering) → key_cmp a b ≡ ordering_then o (key_cmp r s) → a ≡ b
    → (o ≡ Equal) × (r ≡ s)
parted a b r s o e h = let tied = sym e ∙ same-tied a b h in
    (then-first o (key_cmp r s) tied, tied-same r s (then-second o (key_cmp r s) tied))

pub number-parted : (m n : ℕ) (r s : List ℕ) → m < 2 ^ 64 → n < 2 ^ 64 → number_key m ++ r ≡ number_key n ++ s
    → (m ≡ n) × (r ≡ s)
number-parted m n r s h k e = let it = parted _ _ r s (nat_cmp m n) (number-order m n r s h k) e in
    (nat_cmp-IsAntisymmetric m n it.0, it.1)

pub byte-parted : (a b : ℕ) (r s : List ℕ) → byte_key a ++ r ≡ byte_key b ++ s → (a ≡ b) × (r ≡ s)
byte-parted a b r s e = let it = parted _ _ r s (nat_cmp a b) (byte-order a b r s) e in
    (nat_cmp-IsAntisymmetric a b it.0, it.1)

-- two texts as they are written, where what follows begins with no byte of a text
pub written-parted : (a b r s : List ℕ) → BeginsWithNoByte r → BeginsWithNoByte s → written a ++ r ≡ written b ++ s
    → (a ≡ b) × (r ≡ s)
written-parted [] [] r s f g e = (refl, e)
written-parted [] (y ∷ b) r s f g e =
    absurd (f y (written b ++ s) (sym (append_assoc (byte_key y) (written b) s) ∙ sym e))
written-parted (x ∷ a) [] r s f g e =
    absurd (g x (written a ++ r) (sym (append_assoc (byte_key x) (written a) r) ∙ e))
written-parted (x ∷ a) (y ∷ b) r s f g e =
    let it = byte-parted x y (written a ++ r) (written b ++ s)
    (sym (append_assoc (byte_key x) (written a) r) ∙ e ∙ append_assoc (byte_key y) (written b) s) in
    let rest = written-parted a b r s f g it.1 in
    ((λ i. it.0 i ∷ rest.0 i), rest.1)

-- a text as it is written, and then 0, is its key
pub written-key : (text r : List ℕ) → text_key text ++ r ≡ written text ++ 0 ∷ r
unfolding text_key
written-key [] r = refl
written-key (x ∷ text) r = append_assoc (byte_key x) (text_key text) r ∙ ap (λ key. byte_key x ++ key) (written-key text r)
    ∙ sym (append_assoc (byte_key x) (written text) (0 ∷ r))
