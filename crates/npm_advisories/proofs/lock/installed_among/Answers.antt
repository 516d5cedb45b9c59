-- The dependencies of the lock file say which texts and which aliases ask for each package.
use Rattle.std.proofs.Common.{map}
use Rattle.std.proofs.lemmas.Result.{IfOk-weaker}
use Rattle.npm_packages.specs.Aliases.{name_at}
use Rattle.npm_packages.specs.Dependents.{texts_at}
use Rattle.npm_packages.specs.Edges.{edge_value}
use Rattle.serde_json.specs.View.{members_view}
use Rattle.npm_advisories.proofs.lock.installed_among.Goals as goal

pub returns : goal.returns
returns c = IfOk-weaker c.installed_of.result _ _
    (λ installed each. record {
      members = members_view c.packages-packages.result.members.now.entries;
      packages = c.packages-packages.ensures;
      texts_at = texts_at c.in_ok-dependents.dependents;
      dependents = record {
        edges = map edge_value c.in_ok-edges.edges.items;
        are = c.in_ok-edges.ensures;
        texts = rw c.deref.ensures.value at c.in_ok-dependents.ensures;
      };
      alias_at = name_at c.in_ok-aliases.aliases;
      aliases = record {
        edges = map edge_value c.in_ok-edges.edges.items;
        are = c.in_ok-edges.ensures;
        first = rw c.deref-2.ensures.value at c.in_ok-aliases.ensures;
      };
      each = each;
    })
    c.installed_of.ensures
