-- Worked examples: where texts are refused in strict form. Each row is computed over the definitions.
use Rattle.std.proofs.Common.{true, false, [], ◌∷◌, codes, encode_utf8_all, refl}
use Rattle.std.specs.Str.{chars}
use lib.Utf8.{encode}
use Rattle.semver_texts.specs.Reading.{list_prefix, list_rest, prefix_of, read_build, read_extras, read_number}
use Rattle.semver_texts.specs.Reading.{read_prerelease, rest_of, skip_one, skip_plus}
use Rattle.npm_sets.specs.NpmMeaning.{comparators_of}
use Rattle.npm_sets.specs.PartialTexts.{has_none_padded, partial_of}
use Rattle.npm_sets.specs.RefusedPlace.{IsRefusalOffset, IsRefusedAt, ends_in_space}
use Rattle.npm_sets.specs.WordTexts.{chunks_of, ending_after, pieces_of, words_from, words_of}
use Rattle.npm_sets.specs.declared.options.NpmOptions.{NpmOptions}
use Rattle.npm_sets.proofs.Places.OnePlace.{one-place}
use Rattle.npm_sets.specs.declared.words.Lead.TheVariants.{AtLeast, Below, Nothing}

abbrev strict : NpmOptions
strict = record { loose = false; include_prerelease = false }

-- the first word
first : IsRefusedAt strict (codes "foo") 0
unfolding pieces_of chunks_of ending_after words_from words_of partial_of has_none_padded comparators_of prefix_of rest_of read_number
    read_extras
    read_prerelease read_build list_prefix list_rest skip_one skip_plus ends_in_space chars encode
first = record {
  before = [];
  after = codes "foo";
  whole = refl;
  refused = record {
    earlier = [];
    read = tt;
    start = [];
    end = codes "foo";
    refused = refl;
    first = record {
      comparators = tt;
      border = refl;
      solid = refl;
      word = (Nothing, codes "foo");
      others = [];
      words = refl;
      refused = refl;
    };
    begins = refl;
    later = [];
    whole = refl;
  };
  offset_is = refl;
}

-- a word after a comparator
second : IsRefusedAt strict (codes "^1 foo") 3
unfolding pieces_of chunks_of ending_after words_from words_of partial_of has_none_padded comparators_of prefix_of rest_of read_number
    read_extras
    read_prerelease read_build list_prefix list_rest skip_one skip_plus ends_in_space chars encode
second = record {
  before = codes "^1 ";
  after = codes "foo";
  whole = refl;
  refused = record {
    earlier = [];
    read = tt;
    start = codes "^1 ";
    end = codes "foo";
    refused = refl;
    first = record {
      comparators = (refl, tt);
      border = refl;
      solid = refl;
      word = (Nothing, codes "foo");
      others = [];
      words = refl;
      refused = refl;
    };
    begins = refl;
    later = [];
    whole = refl;
  };
  offset_is = refl;
}

-- `-`, since only a whole piece is a hyphen range
dash : IsRefusedAt strict (codes "1 - 2 3") 2
unfolding pieces_of chunks_of ending_after words_from words_of partial_of has_none_padded comparators_of prefix_of rest_of read_number
    read_extras
    read_prerelease read_build list_prefix list_rest skip_one skip_plus ends_in_space chars encode
dash = record {
  before = codes "1 ";
  after = codes "- 2 3";
  whole = refl;
  refused = record {
    earlier = [];
    read = tt;
    start = codes "1 ";
    end = codes "- 2 3";
    refused = refl;
    first = record {
      comparators = (refl, tt);
      border = refl;
      solid = refl;
      word = (Nothing, codes "-");
      others = (Nothing, codes "2") ∷ (Nothing, codes "3") ∷ [];
      words = refl;
      refused = refl;
    };
    begins = refl;
    later = [];
    whole = refl;
  };
  offset_is = refl;
}

-- `>=`, which no partial follows, after a hyphen range and an empty piece; `bar` is not reached
later : IsRefusedAt strict (codes "1 - 2||||3  >= a <4||bar") 12
unfolding pieces_of chunks_of ending_after words_from words_of partial_of has_none_padded comparators_of prefix_of rest_of read_number
    read_extras
    read_prerelease read_build list_prefix list_rest skip_one skip_plus ends_in_space chars encode
later = record {
  before = codes "1 - 2||||3  ";
  after = codes ">= a <4||bar";
  whole = refl;
  refused = record {
    earlier = codes "1 - 2" ∷ [] ∷ [];
    read = (refl, (refl, tt));
    start = codes "3  ";
    end = codes ">= a <4";
    refused = refl;
    first = record {
      comparators = (refl, tt);
      border = refl;
      solid = refl;
      word = (AtLeast, []);
      others = (Nothing, codes "a") ∷ (Below, codes "4") ∷ [];
      words = refl;
      refused = refl;
    };
    begins = refl;
    later = codes "bar" ∷ [];
    whole = refl;
  };
  offset_is = refl;
}

-- `b` after `1` and a no-break space, which has two bytes
wide : IsRefusedAt strict (encode_utf8_all (49 ∷ 160 ∷ 98 ∷ [])) 3
unfolding pieces_of chunks_of ending_after words_from words_of partial_of has_none_padded comparators_of prefix_of rest_of read_number
    read_extras
    read_prerelease read_build list_prefix list_rest skip_one skip_plus ends_in_space chars encode
wide = record {
  before = 49 ∷ 160 ∷ [];
  after = 98 ∷ [];
  whole = refl;
  refused = record {
    earlier = [];
    read = tt;
    start = codes "1 ";
    end = codes "b";
    refused = refl;
    first = record {
      comparators = (refl, tt);
      border = refl;
      solid = refl;
      word = (Nothing, codes "b");
      others = [];
      words = refl;
      refused = refl;
    };
    begins = refl;
    later = [];
    whole = refl;
  };
  offset_is = refl;
}

-- ---- what is reported

abbrev loose : NpmOptions
loose = record { loose = true; include_prerelease = false }

-- in loose form the start of the text, and no other place
loose-there : IsRefusalOffset loose (codes "1 - 2 foo") 0 × ¬ IsRefusalOffset loose (codes "1 - 2 foo") 2
loose-there = (record { strict = λ e. cc e; in_loose = λ e. refl }, λ place. cc (place.in_loose refl))

-- in strict form the first word that is no comparator, and no other place
strict-there : IsRefusalOffset strict (codes "^1 foo") 3 × ¬ IsRefusalOffset strict (codes "^1 foo") 0
strict-there = (
  record { strict = λ e. second; in_loose = λ e. cc e },
  λ place. cc (one-place strict (codes "^1 foo") 0 3 (place.strict refl) second),
)
