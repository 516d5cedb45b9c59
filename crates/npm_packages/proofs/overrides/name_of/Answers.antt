-- The key is parted at the first `@` that is not its first byte, if there is one.
use Rattle.std.proofs.Common.{◌∙◌, ◌∷◌, arith, sym}
use Rattle.std.proofs.lemmas.List.{append_cancel_right}
use Rattle.std.proofs.lemmas.Str.Pattern.{split_parts}
use Rattle.npm_packages.specs.Overrides.{name_of}
use Rattle.npm_packages.proofs.OverrideNames.{parted_at, whole_key}
use Rattle.npm_packages.proofs.overrides.name_of.Goals as goal

pub without_range-requires : goal.without_range-requires
without_range-requires c =
    let split = split_parts 64 c.without_at_sign.result.now c.split_once.result c.split_once.ensures.cases (omega arith)
    in
    let parts = rw c.in-Some.is at split in (
      name_of c.args.key.now,
      parted_at c.args.key.now c.without_at_sign.result.now c.in-Some.field-0-0.now
          c.in-Some.range.now c.without_at_sign.ensures parts.0 parts.1,
    )

pub returns-in-Some : goal.returns-in-Some
returns-in-Some c =
    let split = split_parts 64 c.without_at_sign.result.now c.split_once.result c.split_once.ensures.cases (omega arith)
    in
    let parts = rw c.in-Some.is at split in
    append_cancel_right c.without_range.result.now (name_of c.args.key.now) (64 ∷ c.in-Some.range.now)
    (sym c.without_range.ensures ∙ parted_at c.args.key.now c.without_at_sign.result.now c.in-Some.field-0-0.now
    c.in-Some.range.now c.without_at_sign.ensures parts.0 parts.1)

pub returns-in-None : goal.returns-in-None
returns-in-None c =
    let split = split_parts 64 c.without_at_sign.result.now c.split_once.result c.split_once.ensures.cases (omega arith)
    in
    let none = rw c.in-None.is at split in
    sym (whole_key c.args.key.now c.without_at_sign.result.now c.without_at_sign.ensures none)
