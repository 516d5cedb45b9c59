-- The text is made of its characters.
use Rattle.std.proofs.Common.{◌∙◌, ap, encode_utf8_all, sym}
use Rattle.std.proofs.lemmas.Str.{encodes-chars}
use Rattle.npm_texts.specs.WhiteSpace.{is_white, without_end}
use Rattle.semver_command.specs.Written.{bare, without_mark}
use Rattle.semver_command.proofs.written.bare.Goals as goal

pub returns : goal.returns
unfolding bare
returns c = sym (encodes-chars c.without_mark.result.now c.without_mark.utf8)
    ∙ ap encode_utf8_all (c.without_mark.ensures
    ∙ ap without_mark (c.without_white_end.ensures ∙ ap (without_end is_white) c.without_white_start.ensures))
