-- Any version meets `*`; else the range admits it, or the text is a tag.
use Rattle.std.proofs.Common.{◌≡◌, ◌∙◌, false, option_map, refl, sym}
use Rattle.npm_trees.specs.Meeting.{any, asks_for_any}
use Rattle.npm_trees.proofs.Meeting.{by_range, by_tag}
use Rattle.npm_trees.proofs.met.is_text_met.Goals as goal

pub returns-then-asks_for_any : goal.returns-then-asks_for_any
returns-then-asks_for_any c = ((λ is. any (cc (c.asks_for_any.ensures, c.if-asks_for_any.true))), (λ is. refl))

pub returns-in-Some : goal.returns-in-Some
returns-in-Some c =
    let some : asks_for_any c.args.text.now ≡ false = cc (c.asks_for_any.ensures, c.if-asks_for_any.false) in
    let inside = c.is_inside.ensures c.args.text.now (rw c.in-Some.is at c.in_ok-range.ensures.means) in
    let both = by_range c.args.text.now _ c.args.is_registered some (rw c.in-Some.is at c.in_ok-range.ensures.accepted) in
    ((λ is. both.0 (inside.0 is)), (λ met. inside.1 (both.1 met)))

pub returns-then-is_registered : goal.returns-then-is_registered
returns-then-is_registered c =
    let some : asks_for_any c.args.text.now ≡ false = cc (c.asks_for_any.ensures, c.if-asks_for_any.false) in
    let both = by_tag c.args.text.now (option_map (λ t. t.now) c.args.version) c.args.is_registered some (rw c.in-None.is at c.in_ok-range.ensures.refused) in
    ((λ is. both.0 (c.if-is_registered.true, sym c.is_tag.ensures ∙ is)), (λ met. c.is_tag.ensures ∙ (both.1 met).1))

pub returns-else-is_registered : goal.returns-else-is_registered
returns-else-is_registered c =
    let some : asks_for_any c.args.text.now ≡ false = cc (c.asks_for_any.ensures, c.if-asks_for_any.false) in
    let both = by_tag c.args.text.now (option_map (λ t. t.now) c.args.version) c.args.is_registered some (rw c.in-None.is at c.in_ok-range.ensures.refused) in
    ((λ never. cc never), (λ met. absurd (cc ((both.1 met).0, c.if-is_registered.false))))
