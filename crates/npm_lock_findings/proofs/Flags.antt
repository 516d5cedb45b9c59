-- Drafts with a reason and without, one more at a time.
use Rattle.std.proofs.Common.{◌≡◌, ◌∙◌, ◌+◌, ◌<◌, ◌++◌, ◌∷◌, [], ℕ, List, Bool, ap, append_assoc, arith, drop, is_some, length, map, replicate, sym}
use Rattle.std.proofs.lemmas.List.{drop_more, map-append, replicate-append-replicate}
use Rattle.npm_lock_findings.specs.declared.draft.Draft.{Draft}

-- whether it has a reason
abbrev pub flag : Draft → Bool
flag draft = is_some draft.suppression

flags_more : (drafts : List Draft) (draft : Draft) → map flag (drafts ++ (draft ∷ [])) ≡ map flag drafts ++ (flag draft ∷ [])
flags_more drafts draft = map-append flag drafts (draft ∷ [])

-- of so many, one more of the same
pub one_more : (drafts more : List Draft) (draft : Draft) (n : ℕ) (has : Bool) → more ≡ drafts ++ (draft ∷ []) → flag draft ≡ has
    → map flag drafts ≡ replicate n has → map flag more ≡ replicate (n + 1) has
one_more drafts more draft n has is such held = ap (map flag) is ∙ flags_more drafts draft
    ∙ rw (held, such) (replicate-append-replicate n 1 has)

-- of those that are left, one less
pub one_less : {T : Type 0} (all : List T) (i : ℕ) (item : T) → i < length all → (drafts more : List Draft) (draft : Draft) (has : Bool)
    (whole : List Bool) → more ≡ drafts ++ (draft ∷ []) → flag draft ≡ has
    → map flag drafts ++ replicate (length (drop i all)) has ≡ whole
    → map flag more ++ replicate (length (drop (i + 1) all)) has ≡ whole
one_less all i item small drafts more draft has whole is such held =
    let rest : List Bool = replicate (length (drop (i + 1) all)) has in
    let shorter : length (drop i all) ≡ 1 + length (drop (i + 1) all) = let here = ap length (drop_more all i item small) in omega (arith, here) in
    ap (λ list. map flag list ++ rest) is ∙ ap (λ list. list ++ rest) (flags_more drafts draft)
    ∙ append_assoc (map flag drafts) (flag draft ∷ []) rest
    ∙ ap (λ x. map flag drafts ++ (x ∷ rest)) such
    ∙ ap (λ list. map flag drafts ++ list) (replicate-append-replicate 1 (length (drop (i + 1) all)) has)
    ∙ ap (λ n. map flag drafts ++ replicate n has) (sym shorter) ∙ held
