-- Each branch is a case of the definition.
use Rattle.std.proofs.Common.{◌≡◌, ◌∙◌, ◌↔◌, ◌&&◌, ℕ, List, Bool, IsTrue, true, false, refl, sym}
use Rattle.serde_json.specs.Data.{Data}
use Rattle.npm_packages.specs.Asked.{AskedValue}
use Rattle.npm_lock.specs.Outcomes.{IsLocalPeer, absent, invalid, local_peer, missing, unchecked, valid}
use Rattle.npm_packages.specs.Packages.{IsFoundIn, Package}
use Rattle.npm_packages.specs.PackageValue.{package_value}
use Rattle.npm_lock.proofs.outcome.judgement_of.Goals as goal
use Rattle.npm_lock.proofs.outcome.judgement_of.Goals.{then-asked, else-asked}

module _ (packages : Data) (folder : List ℕ) (is_installed : Bool) (name : List ℕ) (asked : AskedValue) where
  is_local : (found : Package) (is_own : Bool) → (asked.is_peer && (is_installed && is_own)) ≡ true
      → (IsTrue is_own ↔ IsFoundIn packages name folder found)
      → IsLocalPeer packages folder is_installed name asked found
  is_local found is_own all means = by_parts asked.is_peer is_installed is_own refl refl refl all where
    by_parts : (p i o : Bool) → asked.is_peer ≡ p → is_installed ≡ i → is_own ≡ o → (p && (i && o)) ≡ true
        → IsLocalPeer packages folder is_installed name asked found
    by_parts true true true peer installed own all =
        record { peer = peer; installed = installed; own = means.0 own }
    by_parts true true false peer installed own all = absurd (cc all)
    by_parts true false o peer installed own all = absurd (cc all)
    by_parts false i o peer installed own all = absurd (cc all)

  not_local : (found : Package) (is_own : Bool) → (asked.is_peer && (is_installed && is_own)) ≡ false
      → (IsTrue is_own ↔ IsFoundIn packages name folder found)
      → ¬ IsLocalPeer packages folder is_installed name asked found
  not_local found is_own none means local =
      let all : (asked.is_peer && (is_installed && is_own)) ≡ true =
      rw (local.peer, local.installed, means.1 local.own) refl in
      cc (none, all)

pub returns-in_default : goal.returns-in_default
returns-in_default c =
    let found = rw c.in_default.is at c.find.ensures.found in
    elim c.if-asked.branch [
      | then-asked w ↦ rw w.result-is (missing found w.if-asked.true)
      | else-asked w ↦ rw w.result-is (absent found w.if-asked.false)
    ]

pub returns-then-is_local_peer : goal.returns-then-is_local_peer
returns-then-is_local_peer c = local_peer (package_value c.in-Some.found) (rw c.in-Some.is at c.find.ensures.found)
    (is_local _ _ _ _ _ _ _ (sym c.is_local_peer.ensures ∙ c.if-is_local_peer.true)
    (rw c.in-Some.is at c.find.ensures.own))

pub returns-in-Valid : goal.returns-in-Valid
returns-in-Valid c = valid (package_value c.in-Some.found) (rw c.in-Some.is at c.find.ensures.found)
    (not_local _ _ _ _ _ _ _ (sym c.is_local_peer.ensures ∙ c.if-is_local_peer.false)
    (rw c.in-Some.is at c.find.ensures.own))
    (rw c.in-Valid.is at c.in_ok-verdict_on.ensures)

pub returns-in-Unchecked : goal.returns-in-Unchecked
returns-in-Unchecked c =
    unchecked (package_value c.in-Some.found) _ (rw c.in-Some.is at c.find.ensures.found)
    (not_local _ _ _ _ _ _ _ (sym c.is_local_peer.ensures ∙ c.if-is_local_peer.false)
    (rw c.in-Some.is at c.find.ensures.own))
    (rw c.in-Unchecked.is at c.in_ok-verdict_on.ensures)

pub returns-in-Invalid : goal.returns-in-Invalid
returns-in-Invalid c = invalid (package_value c.in-Some.found) (rw c.in-Some.is at c.find.ensures.found)
    (not_local _ _ _ _ _ _ _ (sym c.is_local_peer.ensures ∙ c.if-is_local_peer.false)
    (rw c.in-Some.is at c.find.ensures.own))
    (rw c.in-Invalid.is at c.in_ok-verdict_on.ensures)
