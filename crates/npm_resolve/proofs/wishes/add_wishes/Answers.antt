-- What the manifest asks for comes behind what was asked before.
use Rattle.std.proofs.Common.{◌∙◌, ap, map}
use Rattle.std.proofs.lemmas.List.{map-append}
use Rattle.npm_resolve.specs.Asks.{ask_value}
use Rattle.npm_resolve.proofs.wishes.add_wishes.Goals as goal

pub returns : goal.returns
returns c = record {
  asks = map ask_value c.in_ok-found.found.asks.items;
  left_out = map ask_value c.in_ok-found.found.left_out.items;
  are = c.in_ok-found.ensures;
  asked = ap (map ask_value) (rw c.deref.ensures.value at c.in_ok-extend_from_slice.ensures.items)
      ∙ map-append ask_value c.args.wishes.now.asks.items c.in_ok-found.found.asks.items;
  others = ap (map ask_value) (rw c.deref-2.ensures.value at c.in_ok-extend_from_slice-2.ensures.items)
      ∙ map-append ask_value c.args.wishes.now.left_out.items c.in_ok-found.found.left_out.items;
}
