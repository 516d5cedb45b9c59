use Rattle.std.proofs.Common.{◌≡◌, ◌≤◌, length}
use Rattle.std.specs.Str.Parse.{digits_value_after}
use Rattle.semver_texts.specs.declared.TheConstants.{MAX_SAFE_INTEGER}
use Rattle.semver_texts.specs.Characters.{BeginsWith, is_digit}
use Rattle.semver_texts.specs.NumberText.{number_of}
use Rattle.semver_texts.specs.Reading.{rest_of, prefix_of}
use Rattle.semver_texts.proofs.parse.number.read_number.Given as goal

-- the digits so far and those of the rest write the number of the text
abbrev pub invariant-digits : goal.invariant-digits
invariant-digits l = record {
  value : digits_value_after 10 l.value (prefix_of is_digit l.rest) ≡ number_of (prefix_of is_digit l.text);
  end : rest_of is_digit l.rest ≡ rest_of is_digit l.text;
  begins : BeginsWith is_digit l.text;
  limit : l.value ≤ MAX_SAFE_INTEGER;
}

abbrev pub decreases-digits : goal.decreases-digits
decreases-digits l = length l.rest
