-- The problem is the one that the manifest and the documents pose.
use Rattle.std.proofs.Common.{◌≡◌, ◌∙◌, length, map, refl, subst}
use Rattle.version_solving.specs.Naming.{IsDemandOf}
use Rattle.version_solving.specs.declared.ask.Listed.{Listed}
use Rattle.npm_resolve.specs.Asks.{RulesValue, ask_value}
use Rattle.npm_resolve.proofs.Unmet.{root_length}
use Rattle.npm_pick.specs.Lemmas.Zips.{zip_length}
use Rattle.npm_resolve.specs.Texts.{text}
use Rattle.npm_resolve.specs.Rules.{unread_among}
use Rattle.npm_resolve.proofs.resolve.resolved.Goals as goal

pub resolution_of-requires : goal.resolution_of-requires
resolution_of-requires c =
    let lengths : length c.deref-4.result.now ≡ length c.in_ok-demands.field-0.root.items =
    zip_length (IsDemandOf c.deref-5.result.now c.in_ok-demands.field-0.ranges.items) c.deref-4.result.now
    c.in_ok-demands.field-0.root.items c.in_ok-demands.ensures.root_demands in
    let numbered : length c.deref-13.result.now ≡ length c.in_ok-root.root.items = root_length _ _ _ _ _ c.in_ok-root.ensures in
    let kept : length c.in_ok-demands.field-0.root.items ≡ length c.in_ok-root.root.items =
    rw c.deref-13.ensures.value at numbered in
    rw c.deref-4.ensures.value at (lengths ∙ kept)

pub returns : goal.returns
returns c = record {
  posed = record {
    wishes = c.in_ok-asks.field-0.asks;
    offers = c.in_ok-offers.offers;
    names = c.in_ok-names.field-0.names;
    ranges = c.in_ok-demands.field-0.ranges;
    root = c.in_ok-root.root;
    documents = record { packages = c.in_ok-demands.field-0.packages; ranges = c.in_ok-ranges.ranges };
  };
  posing = record {
    left_out = map ask_value c.in_ok-asks.field-0.left_out.items;
    asked = rw c.in_ok-rules.ensures at c.in_ok-asks.ensures;
    offered = c.in_ok-offers.ensures;
    listed = c.in_ok-listed.listed.items;
    are_listed = rw (c.deref.ensures.value, c.in_ok-rules.ensures) at c.in_ok-listed.ensures;
    absent = c.in_ok-names.ensures.0;
    are_absent = rw c.deref-2.ensures.value at c.in_ok-names.ensures.1;
    named = c.in_ok-names.ensures.2;
    demands = c.in_ok-demands.field-0.root.items;
    demanded = rw (c.deref-4.ensures.value, c.deref-5.ensures.value) at c.in_ok-demands.ensures.root_demands;
    root = rw (c.deref-11.ensures.value, c.deref-12.ensures.value, c.deref-13.ensures.value) at c.in_ok-root.ensures;
    packages = rw c.deref-5.ensures.value at c.in_ok-demands.ensures.packages;
    allowed = rw (c.deref-6.ensures.value, c.deref-7.ensures.value) at c.in_ok-ranges.ensures;
  };
  resolution = c.in_ok-resolution.ensures;
  left_out = refl;
  unread = subst (λ (rules : RulesValue). map text c.in_ok-unread.unread.items
      ≡ unread_among rules (map (λ (one : Listed). one.name.now) c.in_ok-names.field-0.names.items))
      c.in_ok-rules.ensures (rw c.deref-3.ensures.value at c.in_ok-unread.ensures);
  unmet = rw (c.deref-8.ensures.value, c.deref-9.ensures.value, c.deref-10.ensures.value) at c.in_ok-unmet.ensures;
  missing = c.in_ok-names.ensures.3;
}
