-- The fault of an advisory at its place, and lists of advisories of which some are read.
use Rattle.std.proofs.Common.{◌≡◌, ◌∙◌, ◌++◌, ◌<◌, ◌+◌, ℕ, List, [], ◌∷◌, Bool, Option, None, ap, drop}
use Rattle.std.proofs.Common.{get_or, length, option_map, refl, sym}
use Rattle.std.proofs.lemmas.List.{append_assoc}
use Rattle.std.specs.Option.{option_or}
use Rattle.serde_json.specs.Data.{Data}
use Rattle.serde_json.specs.View.{items_view, view}
use Rattle.serde_json.specs.declared.value.Value.{Value}
use Rattle.npm_advisories.specs.Advisories.{AdvisoryValue, npm_advisory, npm_list}
use Rattle.npm_advisories.specs.Faults.{FaultValue, fault_at, list_fault}
use Rattle.npm_advisories.specs.Ids.{IdValue, id_in}
use Rattle.npm_advisories.specs.Lemmas.Items.{left}
use Rattle.npm_advisories.specs.OsvFaults.{osv_fault, osv_list_fault}
use Rattle.toml_datetime.specs.declared.datetime.Date.{Date}
use Rattle.npm_advisories.specs.OsvPackages.{told_name}
use Rattle.npm_advisories.specs.Private.Reading.{IsErrorAt, IsErrorOf, IsUnreadAs, at_place}
use Rattle.npm_advisories.specs.Private.VersionTest.{is_version}
use Rattle.npm_advisories.specs.declared.fault.AuditError.{AuditError}
use Rattle.npm_advisories.specs.declared.fault.AuditError.TheVariants as Errors
use Rattle.npm_advisories.specs.declared.fault.FaultKind.{FaultKind}
use Rattle.npm_advisories.specs.declared.fault.Unread.{Unread}
use Rattle.npm_advisories.specs.declared.fault.Unread.TheVariants.{Memory, Refused}

-- the error of the first advisory that is not read is that of the list
pub error-of : (unread : Unread) (name : List ℕ) (place : ℕ) (id : Option IdValue) (error : AuditError)
    (fault : Option FaultKind) (rest : Option FaultValue) → IsUnreadAs fault unread → IsErrorAt unread name place id error
    → IsErrorOf (option_or (option_map (fault_at name place id) fault) rest) error
error-of (Refused kind) name place id error fault rest is at = rw is at.0
error-of Memory name place id error fault rest is at = rw at tt

-- the error of the first of some faults is that of all
pub error-first : (fault rest whole : Option FaultValue) (error : AuditError) → IsErrorOf fault error
    → whole ≡ option_or fault rest → IsErrorOf whole error
error-first fault rest whole (Errors.Refused at) is before = before ∙ (rw is refl)
error-first fault rest whole Errors.Memory is before = tt

-- the list of an advisory and others
module _ (name : List ℕ) (entries : List Value) (i : ℕ) (one : Value) (lt : i < length entries)
    (is : one ≡ get_or entries i one) where
  -- the fault of those from a place on
  pub fault-next : (fault_of : Data → Option FaultKind) → list_fault fault_of name i (items_view (drop i entries))
      ≡ option_or (option_map (fault_at name i (id_in (view one))) (fault_of (view one)))
      (list_fault fault_of name (i + 1) (items_view (drop (i + 1) entries)))
  fault-next fault_of = rw (left entries i one lt is) refl

  pub fault-none : (fault_of : Data → Option FaultKind) → fault_of (view one) ≡ None
      → list_fault fault_of name i (items_view (drop i entries))
      ≡ list_fault fault_of name (i + 1) (items_view (drop (i + 1) entries))
  fault-none fault_of none = fault-next fault_of ∙ (rw none refl)

  pub read-next : (front : List AdvisoryValue) → front ++ npm_list name (items_view (drop i entries))
      ≡ (front ++ npm_advisory name (view one) ∷ []) ++ npm_list name (items_view (drop (i + 1) entries))
  read-next front =
      ap (λ items. front ++ npm_list name items) (left entries i one lt is)
      ∙ sym (append_assoc front (npm_advisory name (view one) ∷ []) (npm_list name (items_view (drop (i + 1) entries))))

-- the objects of a list, one after another
module _ (today : Date) (entries : List Value) (i : ℕ) (one : Value) (lt : i < length entries)
    (is_at : one ≡ get_or entries i one) where
  -- one object without a fault
  pub osv-passed : (is_wanted : List ℕ → Bool) (whole : Option FaultValue)
      → osv_fault today is_version is_wanted (view one) ≡ None
      → whole ≡ osv_list_fault today is_version is_wanted i (items_view (drop i entries))
      → whole ≡ osv_list_fault today is_version is_wanted (i + 1) (items_view (drop (i + 1) entries))
  osv-passed is_wanted whole none before =
      before ∙ ap (osv_list_fault today is_version is_wanted i) (left entries i one lt is_at) ∙ (rw none refl)

  -- the first one with a fault
  pub osv-found : (is_wanted : List ℕ → Bool) (whole : Option FaultValue) (error : AuditError)
      → IsErrorOf (at_place (told_name is_wanted (view one)) i (id_in (view one))
      (osv_fault today is_version is_wanted (view one))) error
      → whole ≡ osv_list_fault today is_version is_wanted i (items_view (drop i entries)) → IsErrorOf whole error
  osv-found is_wanted whole (Errors.Refused at) is before =
      before ∙ ap (osv_list_fault today is_version is_wanted i) (left entries i one lt is_at) ∙ (rw is refl)
  osv-found is_wanted whole Errors.Memory is before = tt
