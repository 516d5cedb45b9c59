-- The keys that are gathered, and those that are kept.
use Rattle.std.proofs.Common.{◌≡◌, ◌↔◌, ℕ, List, Bool, true, Option, Result, Ok, Err, IfOk, inl, inr}
use Rattle.std.specs.List.{All, Contains}
use Rattle.semver_cuts.specs.Ends.{Ends}
use Rattle.serde_json.specs.Data.{Data}
use Rattle.node_semver.specs.Versions.{VersionValue}
use Rattle.npm_pick.specs.Kept.{ArePicked, IsAdmitted, IsInOrder, IsInSome, IsKept, KeyValue}
use Rattle.npm_pick.specs.Packument.{candidates_of}
use Rattle.npm_pick.specs.Private.Keeping.{AreAdded, AreGathered, IsInOne, IsKeyRead, IsWithin, texts_of}
use Rattle.npm_pick.specs.declared.options.Options.{Options}

module _ (p : Data) (o : Options) (all : Bool) (texts : List (List ℕ)) where
  module _ (ranges : List (Option (List (Ends VersionValue))))
      (same : (v : VersionValue) → IsInOne ranges v ↔ IsInSome texts v) where
    admitted : (key : List ℕ) → IsWithin p o ranges key → IsAdmitted p o texts key
    admitted key w = record {
      version = w.version;
      read = w.read;
      admitted = (same w.version).0 w.admitted;
      published = w.published;
      allowed = w.allowed;
    }

    within : (key : List ℕ) → IsAdmitted p o texts key → IsWithin p o ranges key
    within key a = record {
      version = a.version;
      read = a.read;
      admitted = (same a.version).1 a.admitted;
      published = a.published;
      allowed = a.allowed;
    }

    pub all_gathered : (old new : List KeyValue) → all ≡ true → ArePicked p o texts (texts_of old)
        → All IsKeyRead old → AreAdded p o ranges (candidates_of o.include_staged p) old new
        → AreGathered p o all texts new
    all_gathered old new whole picked read added = record {
      picks = texts_of old;
      picked = picked;
      exact = λ key. (
        (λ there. elim ((added.exact key).0 there) [
          | inl first ↦ inl first
          | inr one ↦ inr (whole, one.0, admitted key one.1)
        ]),
        (λ either. elim either [
          | inl first ↦ (added.exact key).1 (inl first)
          | inr one ↦ (added.exact key).1 (inr (one.1, within key one.2))
        ]),
      );
      read = added.read read;
    }

  pub all_kept : {X E : Type 0} (result : Result X E) (keys : X → List (List ℕ)) (gathered : List KeyValue)
      → AreGathered p o all texts gathered → IfOk result (λ x. IsInOrder (keys x))
      → IfOk result (λ x. (key : List ℕ) → Contains (keys x) key ↔ Contains (texts_of gathered) key)
      → IfOk result (λ x. IsKept p o all texts (keys x))
  all_kept (Ok x) keys gathered g ordered same = record {
    picks = g.picks;
    picked = g.picked;
    exact = λ key. (
      (λ there. (g.exact key).0 ((same key).0 there)),
      (λ either. (same key).1 ((g.exact key).1 either)),
    );
    ordered = ordered;
  }
  all_kept (Err e) keys gathered g ordered same = tt
