-- Keys that are added one after the other.
use Rattle.std.proofs.Common.{◌≡◌, ◌∙◌, ◌++◌, ℕ, List, [], ◌∷◌, Option, Some, append_assoc, inl, inr}
use Rattle.std.proofs.Common.{subst, sym}
use Rattle.std.proofs.lemmas.List.{map-append}
use Rattle.std.proofs.lemmas.List.Elements.{All-push, Contains-push, Contains-push_cases, Contains-append_left}
use Rattle.std.specs.List.{Contains}
use Rattle.semver_cuts.specs.Ends.{Ends}
use Rattle.semver_cuts.specs.Lemmas.Lists.{any-either, any-left, any-right}
use Rattle.serde_json.specs.Data.{Data, Members, member}
use Rattle.node_semver.specs.Versions.{VersionValue}
use Rattle.npm_texts.specs.InstalledVersions.{IsInstalledVersion}
use Rattle.npm_pick.specs.Kept.{KeyValue}
use Rattle.npm_pick.specs.Packument.{Release, releases_among}
use Rattle.npm_pick.specs.Private.Keeping.{AreAdded, AreAddedSoFar, IsKeyRead, IsWithin, texts_of}
use Rattle.npm_pick.specs.declared.options.Options.{Options}

texts_pushed : (xs : List KeyValue) (k : KeyValue) → texts_of (xs ++ k ∷ []) ≡ texts_of xs ++ k.text ∷ []
texts_pushed xs k = map-append (λ (k : KeyValue). k.text) xs (k ∷ [])

module _ (p : Data) (o : Options) (ranges : List (Option (List (Ends VersionValue)))) where
  -- those of one list, and then those of another
  pub both_added : (xs ys : List Release) (old mid new : List KeyValue) → AreAdded p o ranges xs old mid
      → AreAdded p o ranges ys mid new → AreAdded p o ranges (xs ++ ys) old new
  both_added xs ys old mid new h g = record {
    exact = λ key. (
      (λ there. elim ((g.exact key).0 there) [
        | inl before ↦ elim ((h.exact key).0 before) [
          | inl first ↦ inl first
          | inr one ↦ inr (any-left (λ (r : Release). r.key ≡ key) xs ys one.0, one.1)
        ]
        | inr one ↦ inr (any-right (λ (r : Release). r.key ≡ key) xs ys one.0, one.1)
      ]),
      (λ either. elim either [
        | inl first ↦ (g.exact key).1 (inl ((h.exact key).1 (inl first)))
        | inr one ↦ elim (any-either (λ (r : Release). r.key ≡ key) xs ys one.0) [
          | inl here ↦ (g.exact key).1 (inl ((h.exact key).1 (inr (here, one.1))))
          | inr there ↦ (g.exact key).1 (inr (there, one.1))
        ]
      ]),
    );
    read = λ all. g.read (h.read all);
  }

  -- one that is admitted
  one_added : (x : Release) (old : List KeyValue) (v : VersionValue) → IsInstalledVersion x.key v
      → IsWithin p o ranges x.key
      → AreAdded p o ranges (x ∷ []) old (old ++ record { version = Some v; text = x.key } ∷ [])
  one_added x old v read within =
      let k : KeyValue = record { version = Some v; text = x.key } in
      record {
        exact = λ key. (
          (λ there. elim (Contains-push_cases (texts_of old) x.key key (rw texts_pushed at there)) [
            | inl before ↦ inl before
            | inr same ↦ inr (inl same, subst (IsWithin p o ranges) same within)
          ]),
          (λ either. elim either [
            | inl before ↦ rw texts_pushed (Contains-append_left (texts_of old) (x.key ∷ []) key before)
            | inr one ↦ elim (one.0) [
              | inl same ↦ rw texts_pushed (subst (λ (t : List ℕ). Contains (texts_of old ++ x.key ∷ []) t) same
                  (Contains-push (texts_of old) x.key))
              | inr never ↦ absurd never
            ]
          ]),
        );
        read = λ all. All-push IsKeyRead old k all read;
      }

  -- one that is not
  one_passed : (x : Release) (old : List KeyValue) → ¬ IsWithin p o ranges x.key → AreAdded p o ranges (x ∷ []) old old
  one_passed x old without = record {
    exact = λ key. (
      (λ there. inl there),
      (λ either. elim either [
        | inl there ↦ there
        | inr one ↦ elim (one.0) [
          | inl same ↦ absurd (without (subst (IsWithin p o ranges) (sym same) one.1))
          | inr never ↦ absurd never
        ]
      ]),
    );
    read = λ all. all;
  }

  -- ---- in the loop

  more : (all left : Members) (old now new : List KeyValue) (x : Release)
      → AreAddedSoFar p o ranges all (member x.key x.manifest left) old now → AreAdded p o ranges (x ∷ []) now new
      → AreAddedSoFar p o ranges all left old new
  more all left old now new x so added = record {
    done = so.done ++ x ∷ [];
    parts = so.parts ∙ sym (append_assoc so.done (x ∷ []) (releases_among left));
    added = both_added so.done (x ∷ []) old now new so.added added;
  }

  pub more_added : (all left : Members) (old now new : List KeyValue) (x : Release) (v : VersionValue)
      → AreAddedSoFar p o ranges all (member x.key x.manifest left) old now → IsInstalledVersion x.key v
      → IsWithin p o ranges x.key → new ≡ now ++ record { version = Some v; text = x.key } ∷ []
      → AreAddedSoFar p o ranges all left old new
  more_added all left old now new x v so read within is =
      rw is (more all left old now (now ++ record { version = Some v; text = x.key } ∷ []) x so
      (one_added x now v read within))

  pub more_passed : (all left : Members) (old now : List KeyValue) (x : Release)
      → AreAddedSoFar p o ranges all (member x.key x.manifest left) old now → ¬ IsWithin p o ranges x.key
      → AreAddedSoFar p o ranges all left old now
  more_passed all left old now x so without = more all left old now now x so (one_passed x now without)
