-- The dependencies and what is installed, and the versions that are kept for them.
use Rattle.std.proofs.Common.{map}
use Rattle.npm_texts.specs.RegistrySpec.{registry_spec_value}
use Rattle.npm_pick_reports.specs.Asks.{ask_value}
use Rattle.npm_pick_reports.specs.Reply.{of_all}
use Rattle.npm_pick_reports.proofs.reply.kept_reply.Goals as goal

pub returns-clause-reply : goal.returns-clause-reply
returns-clause-reply g c = of_all (map ask_value c.in_ok-asked.asked.asks.items)
    (map registry_spec_value c.in_ok-asked.asked.installed.items) _ c.in_ok-asked.ensures.asks
    c.in_ok-asked.ensures.installed
    (rw (c.deref-2.ensures.value, c.deref-3.ensures.value, c.in_ok-requests.ensures, c.deref.ensures.value)
    at c.in_ok-packages.ensures.mirror)
