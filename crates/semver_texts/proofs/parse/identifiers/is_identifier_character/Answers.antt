use Rattle.std.proofs.Common.{arith, get_or, nat_eq, not, refl}
use Rattle.semver_texts.specs.declared.parse.identifiers.TheConstants.{IDENTIFIER_CHARACTERS}
use Rattle.semver_texts.specs.Characters.{is_identifier_character}
use Rattle.semver_texts.specs.Lemmas.Texts.ByteTable.{agree, agree-at}
use Rattle.semver_texts.proofs.parse.identifiers.is_identifier_character.Goals as goal

pub returns : goal.returns
unfolding agree
returns c = agree-at (λ b. not (nat_eq (get_or IDENTIFIER_CHARACTERS b 0) 44)) is_identifier_character 256 refl
    c.args.byte (omega arith)
