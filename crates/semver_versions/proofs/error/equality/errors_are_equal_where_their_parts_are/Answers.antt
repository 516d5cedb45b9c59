use Rattle.std.proofs.lemmas.Grind.{common_steps}
use native.Mathlib.Omega.{arith}
use Rattle.std.proofs.Common.{◌≡◌, rules, Some, None, refl, ap, sym}
use mathlib.Core.Bool.{true≢false}
use denote.Enum.Bare.{same_true, true_same}
use Rattle.std.specs.Bool.{Decides}
use Rattle.std.specs.Cmp.Lexicographic.{bytes_decides}
use Rattle.std.proofs.lemmas.Bool.Decides.{Decides-and, Decides-eqb, Decides-like}
use Rattle.std.specs.contracts.num.IntErrorKind.{the_type}
use Rattle.std.specs.declared.num.ParseIntError.{ParseIntError as IntFault}
use Rattle.semver_versions.specs.contracts.error.kind.SemverErrorKindPartialEq.TheImpl.{ghosts as kinds}
use Rattle.semver_versions.specs.declared.error.kind.SemverErrorKind.{SemverErrorKind}
use Rattle.semver_versions.specs.declared.error.kind.SemverErrorKind.TheVariants.{MaxLengthError, IncompleteInput}
use Rattle.semver_versions.specs.declared.error.kind.SemverErrorKind.TheVariants.{ParseIntError, MaxIntError, Context}
use Rattle.semver_versions.specs.declared.error.kind.SemverErrorKind.TheVariants.{NoValidRanges, Other, OutOfMemory}
use Rattle.semver_versions.specs.Error.{max_int, context, parse_int}
use Rattle.semver_versions.specs.ErrorEquality.{kind_value}
use Rattle.semver_versions.proofs.error.equality.errors_are_equal_where_their_parts_are.Goals as goal

kinds_decide : (k l : SemverErrorKind) → Decides (kinds.eq k l) (kind_value k ≡ kind_value l)
kinds_decide MaxLengthError MaxLengthError = (λ _. refl, λ _. refl)
kinds_decide IncompleteInput IncompleteInput = (λ _. refl, λ _. refl)
kinds_decide (ParseIntError f) (ParseIntError g) = (
  λ h i. (parse_int, Some (record { kind = same_true the_type (search rules) f.kind g.kind h i })),
  λ e. let same : f ≡ g = cc (ap (λ v. v.1) e) in true_same the_type f.kind g.kind (ap (λ (x : IntFault). x.kind) same),
)
kinds_decide (MaxIntError m) (MaxIntError n) =
    Decides-like _ (λ e i. (max_int (e i), None)) (λ e. cc (ap (λ v. v.0) e)) (Decides-eqb m n)
kinds_decide (Context v) (Context w) =
    Decides-like _ (λ e i. (context (e i), None)) (λ e. cc (ap (λ v. v.0) e)) (bytes_decides v.now w.now)
kinds_decide NoValidRanges NoValidRanges = (λ _. refl, λ _. refl)
kinds_decide Other Other = (λ _. refl, λ _. refl)
kinds_decide OutOfMemory OutOfMemory = (λ _. refl, λ _. refl)
kinds_decide k l = (λ h. absurd (true≢false (sym h)), λ e. let apart : ⊥ = cc (ap (λ v. v.0) e) in absurd apart)

pub returns-clause-kind : goal.returns-clause-kind
returns-clause-kind c = kinds_decide

pub returns-clause-error : goal.returns-clause-error
returns-clause-error c =
    grind (arith, common_steps, Decides-like, Decides-and, bytes_decides, Decides-eqb, kinds_decide)
