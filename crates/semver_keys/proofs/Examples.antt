-- Worked examples of the definitions, which compute.
use Rattle.std.proofs.Common.{◌≡◌, ◌∙◌, [], ◌∷◌, refl, sym, arith, lit<, lit≤}
use Rattle.std.proofs.lemmas.List.{append-nil}
use Rattle.std.specs.declared.cmp.Ordering.TheVariants.{Less}
use Rattle.semver_cuts.specs.declared.cut.Cut.TheVariants.{Before, After, End}
use Rattle.semver_texts.specs.IdentifierValue.{alphanumeric, numeric}
use Rattle.semver_texts.specs.Version.{VersionValue, release}
use Rattle.semver_keys.specs.CutKey.{cut_key}
use Rattle.semver_keys.specs.IdentifierKey.{byte_key, identifier_key, identifiers_key, prerelease_key, text_key}
use Rattle.semver_keys.specs.KeyOrder.{key_cmp}
use Rattle.semver_keys.specs.NumberKey.{byte_count, long_number_key, lowest_bytes, number_key}
use Rattle.semver_keys.specs.VersionKey.{version_key}
use Rattle.semver_keys.specs.VersionOfKey.{IsNoKey, IsVersionOfKey}
use Rattle.semver_keys.specs.Lemmas.VersionOrder.{version-begins}
use Rattle.semver_keys.proofs.NumberReading.{none-small}

-- 239, 240, 255, 256, 65536 and 2^64 - 1
one_byte : number_key 239 ≡ 239 ∷ []
unfolding number_key
one_byte = refl

first_long : number_key 240 ≡ 241 ∷ 240 ∷ []
unfolding number_key long_number_key byte_count lowest_bytes
first_long = refl

two_bytes : number_key 256 ≡ 242 ∷ 1 ∷ 0 ∷ []
unfolding number_key long_number_key byte_count lowest_bytes
two_bytes = refl

three_bytes : number_key 65536 ≡ 243 ∷ 1 ∷ 0 ∷ 0 ∷ []
unfolding number_key long_number_key byte_count lowest_bytes
three_bytes = refl

eight_bytes : number_key 18446744073709551615
    ≡ 248 ∷ 255 ∷ 255 ∷ 255 ∷ 255 ∷ 255 ∷ 255 ∷ 255 ∷ 255 ∷ []
unfolding number_key long_number_key byte_count lowest_bytes
eight_bytes = refl

-- 1.2.3
plain : version_key (release 1 2 3) ≡ 1 ∷ 2 ∷ 3 ∷ 255 ∷ []
unfolding version_key prerelease_key number_key
plain = refl

-- 1.2.3-rc.4, by the bytes of `rc`
candidate : VersionValue
candidate = record {
  major = 1;
  minor = 2;
  patch = 3;
  pre_release = alphanumeric (114 ∷ 99 ∷ []) ∷ numeric 4 ∷ [];
  build = [];
}

with_candidate : version_key candidate ≡ 1 ∷ 2 ∷ 3 ∷ 2 ∷ 114 ∷ 99 ∷ 0 ∷ 1 ∷ 4 ∷ 0 ∷ []
unfolding candidate version_key prerelease_key identifiers_key identifier_key text_key byte_key number_key
with_candidate = refl

-- it comes before 1.2.3
candidate_below : key_cmp (version_key candidate) (version_key (release 1 2 3)) ≡ Less
unfolding candidate version_key prerelease_key identifiers_key identifier_key text_key byte_key number_key
candidate_below = refl

-- the bytes 0 and 1 of a text that no version is read from
odd_bytes : text_key (0 ∷ 1 ∷ 2 ∷ []) ≡ 1 ∷ 1 ∷ 1 ∷ 2 ∷ 2 ∷ 0 ∷ []
unfolding text_key byte_key
odd_bytes = refl

-- the cuts at 1.2.3, and the last cut
before_plain : cut_key (Before (release 1 2 3)) ≡ 1 ∷ 2 ∷ 3 ∷ 255 ∷ []
unfolding cut_key version_key prerelease_key number_key
before_plain = refl

after_plain : cut_key (After (release 1 2 3)) ≡ 1 ∷ 2 ∷ 3 ∷ 255 ∷ 0 ∷ []
unfolding cut_key version_key prerelease_key number_key
after_plain = refl

last : cut_key End ≡ 255 ∷ []
unfolding cut_key
last = refl

-- ---- the version of a key

-- 1.2.3-rc.4 is that of its key
read_candidate : IsVersionOfKey (1 ∷ 2 ∷ 3 ∷ 2 ∷ 114 ∷ 99 ∷ 0 ∷ 1 ∷ 4 ∷ 0 ∷ []) candidate
unfolding candidate
read_candidate = record {
  words = record { major = lit< tt; minor = lit< tt; patch = lit< tt; identifiers = (tt, (lit< tt, tt)) };
  key_is = with_candidate;
  build = refl;
}

-- the key of the last cut is that of no version
last_no_key : IsNoKey (255 ∷ [])
last_no_key v h e = let it = version-begins v [] in
    let first : 255 ≡ it.first = cc (sym e ∙ sym (append-nil (version_key v)) ∙ it.whole) in
    let low = it.low in absurd (omega arith)

-- 9 as a long number is no key: it is one byte
one_nine : lowest_bytes 1 9 ≡ 9 ∷ []
unfolding lowest_bytes
one_nine = refl

padded_no_key : IsNoKey (241 ∷ 9 ∷ 2 ∷ 3 ∷ 255 ∷ [])
unfolding version_key
padded_no_key v h e = none-small 9 241 (9 ∷ 2 ∷ 3 ∷ 255 ∷ []) (lit≤ tt) (record { fits = refl; bytes = one_nine })
    (lit< tt) v.major _ h.major e
