use Rattle.std.proofs.Common.{◌≡◌, ◌<◌, ◌^◌, length}
use Rattle.std.specs.List.{list_all}
use Rattle.std.specs.Str.Parse.{digits_value_after}
use Rattle.semver_texts.specs.Characters.{is_digit}
use Rattle.semver_texts.specs.NumberText.{number_of}
use Rattle.semver_texts.proofs.parse.identifiers.numeric.Given as goal

-- the digits so far and those of the rest write the number of the text
abbrev pub invariant-digits : goal.invariant-digits
invariant-digits l = record {
  all : list_all is_digit l.rest ≡ list_all is_digit l.text;
  value : digits_value_after 10 l.value l.rest ≡ number_of l.text;
  fits : l.value < 2 ^ 64;
}

abbrev pub decreases-digits : goal.decreases-digits
decreases-digits l = length l.rest
