-- Keys of cuts have the order of the cuts.
use Rattle.std.proofs.Common.{◌≡◌, ◌++◌, ℕ, List, [], ◌∷◌, refl, sym, ap, subst, ◌∙◌}
use Rattle.std.proofs.lemmas.List.{append-nil}
use Rattle.std.specs.Ordering.{ordering_then}
use Rattle.std.specs.declared.cmp.Ordering.{Ordering}
use Rattle.std.specs.declared.cmp.Ordering.TheVariants.{Less, Equal, Greater}
use Rattle.semver_cuts.specs.declared.cut.Cut.{Cut}
use Rattle.semver_cuts.specs.declared.cut.Cut.TheVariants.{Start, Before, After, End}
use Rattle.semver_cuts.specs.Cut.{cut_cmp}
use Rattle.semver_texts.specs.Comparison.{version_cmp}
use Rattle.semver_texts.specs.Version.{VersionValue}
use Rattle.semver_keys.specs.KeyOrder.{key_cmp}
use Rattle.semver_keys.specs.CutKey.{HasCutWords, cut_key}
use Rattle.semver_keys.specs.VersionKey.{HasWords, version_key}
use Rattle.semver_keys.specs.Lemmas.FirstBytes.{first-bytes}
use Rattle.semver_keys.specs.Lemmas.NumberOrder.{BeginsKey}
use Rattle.semver_keys.specs.Lemmas.VersionOrder.{version-begins, version-order}

-- a comparison, and then none
then-Equal : (o : Ordering) → ordering_then o Equal ≡ o
then-Equal Less = refl
then-Equal Equal = refl
then-Equal Greater = refl

-- a key that begins with a byte below 255 comes after no byte, and before 255
after_start : (key : List ℕ) → BeginsKey key → key_cmp [] key ≡ Less
after_start key b = ap (key_cmp []) b.whole

start_before : (key : List ℕ) → BeginsKey key → key_cmp key [] ≡ Greater
start_before key b = ap (λ k. key_cmp k []) b.whole

before_end : (key : List ℕ) → BeginsKey key → key_cmp key (255 ∷ []) ≡ Less
before_end key b = ap (λ k. key_cmp k (255 ∷ [])) b.whole ∙ first-bytes Less b.first 255 b.rest [] b.low

end_after : (key : List ℕ) → BeginsKey key → key_cmp (255 ∷ []) key ≡ Greater
end_after key b = ap (key_cmp (255 ∷ [])) b.whole ∙ first-bytes Greater 255 b.first [] b.rest b.low

-- the key of a version begins with such a byte too
alone : (v : VersionValue) → BeginsKey (version_key v)
alone v = subst BeginsKey (append-nil (version_key v)) (version-begins v [])

pub cut-order : (c d : Cut VersionValue) → HasCutWords c → HasCutWords d
    → key_cmp (cut_key c) (cut_key d) ≡ cut_cmp version_cmp c d
unfolding cut_key
cut-order Start Start h k = refl
cut-order Start (Before w) h k = after_start _ (alone w)
cut-order Start (After w) h k = after_start _ (version-begins w (0 ∷ []))
cut-order Start End h k = refl
cut-order End Start h k = refl
cut-order End (Before w) h k = end_after _ (alone w)
cut-order End (After w) h k = end_after _ (version-begins w (0 ∷ []))
cut-order End End h k = refl
cut-order (Before v) Start h k = start_before _ (alone v)
cut-order (Before v) (Before w) h k = (λ i. key_cmp (sym (append-nil (version_key v)) i) (sym (append-nil (version_key w)) i))
    ∙ version-order v w [] [] h k ∙ then-Equal (version_cmp v w)
cut-order (Before v) (After w) h k = ap (λ key. key_cmp key (version_key w ++ 0 ∷ [])) (sym (append-nil (version_key v)))
    ∙ version-order v w [] (0 ∷ []) h k
cut-order (Before v) End h k = before_end _ (alone v)
cut-order (After v) Start h k = start_before _ (version-begins v (0 ∷ []))
cut-order (After v) (Before w) h k = ap (λ key. key_cmp (version_key v ++ 0 ∷ []) key) (sym (append-nil (version_key w)))
    ∙ version-order v w (0 ∷ []) [] h k
cut-order (After v) (After w) h k = version-order v w (0 ∷ []) (0 ∷ []) h k ∙ then-Equal (version_cmp v w)
cut-order (After v) End h k = before_end _ (version-begins v (0 ∷ []))

pub versions-order : (v w : VersionValue) → HasWords v → HasWords w
    → key_cmp (version_key v) (version_key w) ≡ version_cmp v w
unfolding cut_key
versions-order v w h k = cut-order (Before v) (Before w) h k
