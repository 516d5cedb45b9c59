-- The versions that the texts of a list write, a text more at a time; and the newest of them that a range admits.
use Rattle.std.proofs.Common.{◌≡◌, ◌<◌, ◌+◌, ◌∙◌, ℕ, List, [], ◌∷◌, ◌++◌, get_or, length, map, take}
use Rattle.std.proofs.Common.{ap, inl, inr, subst, sym}
use Rattle.std.specs.List.{Contains}
use Rattle.std.proofs.lemmas.List.{map-append, take_more}
use Rattle.std.proofs.lemmas.List.Elements.{All-contains, All-from_recursion, Contains-append_left}
use Rattle.std.proofs.lemmas.List.Elements.{Contains-append_right, Contains-push, Contains-push_cases}
use Rattle.node_semver.specs.Greatest.{AdmitsNoneIn, IsGreatestAdmitted}
use Rattle.node_semver.specs.Cuts.{Ends}
use Rattle.node_semver.specs.Ranges.{RangeAdmits}
use Rattle.node_semver.specs.Versions.{IsBelow, IsVersionText, VersionValue}
use Rattle.node_semver_callers.specs.Newest.{AreVersionsOf, IsNewest, IsOffered, IsWrittenIn}

-- ---- one text more

written-more : (texts : List (List ℕ)) (text : List ℕ) (v : VersionValue) → IsWrittenIn texts v
    → IsWrittenIn (texts ++ text ∷ []) v
written-more texts text v is = record {
  text = is.text;
  listed = Contains-append_left texts (text ∷ []) is.text is.listed;
  written = is.written;
}

-- a text that writes a version, and no other
text-added : (texts : List (List ℕ)) (text : List ℕ) (versions : List VersionValue) (v : VersionValue)
    → AreVersionsOf texts versions → IsVersionText text v → ((w : VersionValue) → IsVersionText text w → v ≡ w)
    → AreVersionsOf (texts ++ text ∷ []) (versions ++ v ∷ [])
text-added texts text versions v are written only = record {
  each = λ w is. elim (Contains-push_cases versions v w is) [
    | inl before ↦ written-more texts text w (are.each w before)
    | inr same ↦ record {
      text = text;
      listed = Contains-push texts text;
      written = subst (IsVersionText text) same written;
    }
  ];
  all = λ w is. elim (Contains-push_cases texts text is.text is.listed) [
    | inl before ↦ Contains-append_left versions (v ∷ []) w
        (are.all w (record { text = is.text; listed = before; written = is.written }))
    | inr same ↦ subst (Contains (versions ++ v ∷ []))
        (only w (subst (λ (t : List ℕ). IsVersionText t w) (sym same) is.written)) (Contains-push versions v)
  ];
}

-- a text that writes none
text-passed : (texts : List (List ℕ)) (text : List ℕ) (versions : List VersionValue)
    → AreVersionsOf texts versions → ((w : VersionValue) → ¬ IsVersionText text w)
    → AreVersionsOf (texts ++ text ∷ []) versions
text-passed texts text versions are none = record {
  each = λ w is. written-more texts text w (are.each w is);
  all = λ w is. elim (Contains-push_cases texts text is.text is.listed) [
    | inl before ↦ are.all w (record { text = is.text; listed = before; written = is.written })
    | inr same ↦ absurd (none w (subst (λ (t : List ℕ). IsVersionText t w) (sym same) is.written))
  ];
}

-- the same for the text at i, where the texts before it were read
module _ {X : Type 0} (now : X → List ℕ) (texts : List X) (i : ℕ) (d : X) (text : List ℕ)
    (versions : List VersionValue) (lt : i < length texts) (is : text ≡ now (get_or texts i d))
    (are : AreVersionsOf (map now (take i texts)) versions) where
  one_more : map now (take (i + 1) texts) ≡ map now (take i texts) ++ text ∷ []
  one_more =
      ap (map now) (take_more texts i d lt) ∙ map-append now (take i texts) (get_or texts i d ∷ [])
      ∙ ap (λ (t : List ℕ). map now (take i texts) ++ t ∷ []) (sym is)

  pub next-version : (v : VersionValue) (next : List VersionValue) → IsVersionText text v
      → ((w : VersionValue) → IsVersionText text w → v ≡ w) → next ≡ versions ++ v ∷ []
      → AreVersionsOf (map now (take (i + 1) texts)) next
  next-version v next written only same =
      subst (λ (l : List (List ℕ)). AreVersionsOf l next) (sym one_more)
      (subst (AreVersionsOf (map now (take i texts) ++ text ∷ [])) (sym same)
      (text-added (map now (take i texts)) text versions v are written only))

  pub next-text : (next : List VersionValue) → ((w : VersionValue) → ¬ IsVersionText text w) → next ≡ versions
      → AreVersionsOf (map now (take (i + 1) texts)) next
  next-text next none same =
      subst (λ (l : List (List ℕ)). AreVersionsOf l next) (sym one_more)
      (subst (AreVersionsOf (map now (take i texts) ++ text ∷ [])) (sym same)
      (text-passed (map now (take i texts)) text versions are none))

-- ---- the newest

module _ (sets : List (Ends VersionValue)) (texts : List (List ℕ)) (versions : List VersionValue)
    (are : AreVersionsOf texts versions) where
  pub newest-of_texts : (v : VersionValue) → IsGreatestAdmitted sets versions v → IsNewest sets texts v
  newest-of_texts v greatest = record {
    offered = record {
      written = are.each v (subst (λ (l : List VersionValue). Contains l v) (sym greatest.parts)
          (Contains-append_right greatest.before (v ∷ greatest.after) v
          (Contains-append_left (v ∷ []) greatest.after v (Contains-push [] v))));
      admitted = greatest.admitted;
    };
    none_above = λ w offered above. All-contains (λ (u : VersionValue). RangeAdmits sets u → ¬ IsBelow v u) versions w
        (All-from_recursion _ versions greatest.none_better) (are.all w offered.written) offered.admitted above;
  }

  pub none-offered : AdmitsNoneIn sets versions → (v : VersionValue) → ¬ IsOffered sets texts v
  none-offered none v offered = All-contains (λ (u : VersionValue). ¬ RangeAdmits sets u) versions v
      (All-from_recursion _ versions none) (are.all v offered.written) offered.admitted
