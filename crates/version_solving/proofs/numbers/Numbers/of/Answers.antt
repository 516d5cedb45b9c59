-- One name more, at the place before the others.
use Rattle.std.proofs.Common.{◌≡◌, ◌∙◌, ◌-◌, ◌<◌, Some, suc, ap, arith, bytes_eq, cond, length, sym}
use Rattle.std.proofs.lemmas.Map.Text.{btree_map_updates_str}
use Rattle.version_solving.proofs.Places.{place_at}
use Rattle.version_solving.proofs.numbers.Numbers.of.Goals as goal

pub loop-place-preserved : goal.loop-place-preserved
loop-place-preserved c = λ name.
    let at = c.loop-place.place - 1 in
    let one = c.index-listed-place.result in
    let inside : at < length c.args.listed.now = omega arith in
    let next : c.loop-place.place ≡ suc at = omega arith in
    let updates = rw (← c.index-listed-place.is) at c.in_ok-insert.ensures.updates in
    btree_map_updates_str one.name.now c.loop-place.by_name c.insert.new.self _ updates name
    ∙ (ap (λ later. cond (bytes_eq one.name.now name) (Some at) later) (c.loop-place.invariant name)
    ∙ sym (place_at c.args.listed.now at c.loop-place.place one name inside next c.index-listed-place.is))
