-- The dependency of a name comes before those of the names that are left.
use Rattle.std.proofs.Common.{◌≡◌, ◌∙◌, ◌++◌, ◌∷◌, [], ap, append_assoc, append-nil, false, map, refl, sym}
use Rattle.std.proofs.lemmas.List.{map-append}
use Rattle.serde_json.specs.View.{view}
use Rattle.npm_packages.specs.Edges.{edge_value}
use Rattle.npm_packages.specs.Overrides.{changed_by, overridden}
use Rattle.npm_packages.specs.Packages.{is_link}
use Rattle.npm_packages.specs.Lemmas.NameLists.{names_of}
use Rattle.npm_packages.specs.PackageValue.{asked_value, packages_data}
use Rattle.npm_packages.specs.Lemmas.NameLists.{all_asked, are_names}
use Rattle.npm_packages.proofs.edges.add_package.Goals as goal

pub returns-then-is_link : goal.returns-then-is_link
returns-then-is_link c =
    let link = sym c.is_link.ensures ∙ c.if-is_link.true in
    ([], rw link refl, sym (append-nil (map edge_value c.args.edges.now.items)))

pub loop-name-init : goal.loop-name-init
loop-name-init c =
    let entries : c.into_iter-name-iterator.result ≡ c.in_ok-all.all.entries = cc in
    record {
      asked = rw entries (all_asked (view c.args.asker.member.now) c.is_installed-is_installed.result c.in_ok-all.all
          c.iter-name-items.ensures.ordered c.in_ok-all.ensures);
      found = λ later are. (later, are, refl);
    }

pub loop-name-preserved : goal.loop-name-preserved
loop-name-preserved c =
    let asked = rw c.in-Some.ensures.steps at c.loop-name.invariant.asked in
    let changed : asked_value c.overridden-changed.result
    ≡ overridden (packages_data c.args.lock) c.args.asker.folder.now c.in-Some.name.now.now
    (asked_value c.in-Some.asked.now) =
    c.overridden-changed.ensures
    ∙ ap (λ rule. changed_by rule c.args.asker.folder.now (asked_value c.in-Some.asked.now))
    (c.requires.rules c.in-Some.name.now.now) in
    let here = edge_value c.edge_of.result in
    let pushed : map edge_value c.push.new.self.items ≡ map edge_value c.loop-name.edges.items ++ (here ∷ []) =
    ap (map edge_value) c.in_ok-push.ensures.items ∙ map-append edge_value c.loop-name.edges.items _ in
    record {
      asked = asked.1;
      found = λ later are.
          let all = c.loop-name.invariant.found (here ∷ later)
          (rw c.in-Some.ensures.steps (c.edge_of.ensures c.is_installed-is_installed.result _ asked.0 changed, are))
          in (
            all.0,
            all.1,
            ap (λ made. made ++ later) pushed ∙ append_assoc (map edge_value c.loop-name.edges.items) (here ∷ []) later
                ∙ all.2,
          );
    }

pub returns : goal.returns
returns c =
    let no_link : is_link (view c.args.asker.member.now) ≡ false = sym c.is_link.ensures ∙ c.if-is_link.false in
    let entries : c.into_iter-name-iterator.result ≡ c.in_ok-all.all.entries = cc in
    let all = c.loop-name.invariant.found [] (rw c.in-None.ensures.steps.0 tt) in (
      all.0,
      rw no_link (record {
        is_installed = c.is_installed-is_installed.result;
        installed = c.is_installed-is_installed.ensures;
        names = names_of c.in_ok-all.all.entries;
        are_names = are_names (view c.args.asker.member.now) c.is_installed-is_installed.result c.in_ok-all.all
            c.iter-name-items.ensures.ordered c.in_ok-all.ensures;
        each = rw entries at all.1;
      }),
      sym (append-nil (map edge_value c.loop-name.edges.items)) ∙ all.2,
    )
