-- The advisory of a package of npm is added, or none.
use Rattle.std.proofs.Common.{◌≡◌, ◌∙◌, Some, None, false, refl, rules, sym}
use Rattle.serde_json.specs.View.{view}
use Rattle.npm_advisories.specs.Advisories.{about_value}
use Rattle.npm_advisories.specs.OsvPackages.{is_about_wanted}
use Rattle.npm_advisories.specs.OsvForm.{npm_name}
use Rattle.npm_advisories.specs.Index.{has_name}
use Rattle.npm_advisories.specs.Lemmas.Adding.{adds-none, adds-one, adds-other}
use Rattle.npm_advisories.specs.Lemmas.Unwanted.{one-other}
use Rattle.npm_advisories.proofs.osv.add_one.Goals as goal

pub returns-in_default-clause-read : goal.returns-in_default-clause-read
returns-in_default-clause-read c =
    let none : npm_name (view c.args.one.now) ≡ None = search rules in rw none (adds-none (has_name c.args.names.now) _)

pub returns-clause-read : goal.returns-clause-read
returns-clause-read c =
    let name : npm_name (view c.args.one.now) ≡ Some c.in-Some.name.now = search rules in
    rw name (adds-one (has_name c.args.names.now) _ _ _ (record { name = c.in-Some.name; about = c.args.about; range = c.in_ok-range.range })
    (record { name = refl; about = refl; range = c.in_ok-range.ensures.range }) c.in_ok-add.ensures)

pub returns-then-not-has-clause-read : goal.returns-then-not-has-clause-read
returns-then-not-has-clause-read c =
    let name : npm_name (view c.args.one.now) ≡ Some c.in-Some.name.now = search rules in
    let not : is_about_wanted (has_name c.args.names.now) (view c.args.one.now) ≡ false =
    rw name (sym c.has.ensures ∙ c.if-not-has.true) in
    adds-other (has_name c.args.names.now) _ _
    (λ n is. one-other (has_name c.args.names.now) n is (about_value c.args.about) (view c.args.one.now) not)
