-- Documents that pose the same problem as before, and the culprits of it.
use Rattle.std.proofs.Common.{◌≡◌, ◌∙◌, List, ap, length, subst}
use Rattle.std.specs.Prelude.{Vec, slice_get}
use Rattle.std.specs.List.{AllZip}
use Rattle.std.specs.declared.alloc.Global.{Global}
use Rattle.version_solving.specs.Documents.{allowed_in, candidates_in, demands_in, problem_of}
use Rattle.version_solving.specs.Fitting.{IsChange}
use Rattle.version_solving.specs.Solving.{Problem}
use Rattle.version_solving.specs.declared.demand.Demand.{Demand}
use Rattle.version_solving.specs.declared.documents.Documents.{Documents}
use Rattle.version_solving.specs.declared.documents.Package.{Package}
use Rattle.version_solving.specs.declared.documents.Range.{Range}
use Rattle.npm_pick.specs.Lemmas.Zips.{zip_weaker}
use Rattle.npm_resolve.specs.Explanations.{IsCulprit}
use Rattle.npm_resolve.specs.declared.conflict.Culprit.{Culprit}
use Rattle.npm_resolve.specs.declared.posed.Posed.{Posed}

abbrev problem_at : List Demand → List Package → List Range → Problem
problem_at root packages ranges = record {
  root = root;
  count = λ name. length (candidates_in (slice_get packages name));
  demands = λ name candidate. demands_in (slice_get (candidates_in (slice_get packages name)) candidate);
  allows = λ range candidate. allowed_in (slice_get ranges range) candidate;
}

pub same_problem : (root : List Demand) (old new : Documents) → new.ranges.items ≡ old.ranges.items → new.packages ≡ old.packages
    → problem_of root new ≡ problem_of root old
same_problem root old new ranges packages = ap (λ (rs : List Range). problem_at root new.packages.items rs) ranges
    ∙ ap (λ (ps : Vec Package Global). problem_at root ps.items old.ranges.items) packages

-- a culprit of the problem of other documents, if it is the same problem
pub culprits_before : (posed : Posed) (documents : Documents)
    → problem_of posed.root.items documents ≡ problem_of posed.root.items posed.documents
    → (demands : List Demand) (culprits : List Culprit) → AllZip (IsCulprit (record posed { documents = documents })) demands culprits
    → AllZip (IsCulprit posed) demands culprits
culprits_before posed documents same = zip_weaker (IsCulprit (record posed { documents = documents })) (IsCulprit posed)
    (λ demand culprit is. record {
      asked = is.asked;
      change = is.change;
      fits = subst (λ (p : Problem). IsChange p demand is.change) same is.fits;
      key = is.key;
    })
