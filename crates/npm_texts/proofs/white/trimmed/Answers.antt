-- The text is made of its characters.
use Rattle.std.proofs.Common.{◌∙◌, ap, encode_utf8_all, sym}
use Rattle.std.proofs.lemmas.Str.{encodes-chars}
use Rattle.npm_texts.specs.WhiteSpace.{trimmed}
use Rattle.npm_texts.specs.WhiteSpace.{is_white, without_end}
use Rattle.npm_texts.proofs.white.trimmed.Goals as goal

pub returns : goal.returns
unfolding trimmed
returns c = sym (encodes-chars c.without_white_end.result.now c.without_white_end.utf8)
    ∙ ap encode_utf8_all (c.without_white_end.ensures ∙ ap (without_end is_white) c.without_white_start.ensures)
