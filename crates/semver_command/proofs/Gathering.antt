-- Texts that are read one after the other.
use Rattle.std.proofs.Common.{◌≡◌, ◌∙◌, ℕ, ◌+◌, ◌<◌, ◌≤◌, List, [], ◌∷◌, ◌++◌, Bool, true, false, Result, Ok, Err, OnOk}
use Rattle.std.proofs.Common.{append_assoc, append-nil, drop, get_or, length, map, sym}
use Rattle.std.proofs.lemmas.List.{drop_all, drop_more}
use Rattle.std.proofs.lemmas.Slice.Eq.{bytes_eq-Decides}
use Rattle.std.specs.Str.{bytes_eq}
use mathlib.Core.Bool.{true≢false}
use Rattle.node_semver.specs.Versions.{VersionValue}
use Rattle.semver_command.specs.Chosen.{AreChosen, IsChosen, IsLeftOut, chosen, left_out, none}
use Rattle.semver_command.specs.Input.{AreAllTexts, AreTexts, dash, lines, word}
use Rattle.semver_command.specs.Input.{none as no_texts}
use Rattle.semver_command.specs.Kept.{IsKept}
use Rattle.semver_command.specs.Private.Gathering.{Grows, IsGathered, IsOfTexts, StandsFor}
use Rattle.semver_command.specs.declared.asked.Listing.{Listing}
use Rattle.semver_command.specs.declared.asked.Options.{Options}
use Rattle.semver_command.specs.declared.kept.Kept.{Kept}

-- ---- one text more

chosen_more : (options : Options) (S : VersionValue → Type 0) (ts us : List (List ℕ)) (vs ws : List VersionValue)
    → AreChosen options S ts vs → AreChosen options S us ws → AreChosen options S (ts ++ us) (vs ++ ws)
chosen_more options S ts us vs ws none other = other
chosen_more options S ts us vs ws (chosen text v texts others is rest) other =
    chosen text v (texts ++ us) (others ++ ws) is (chosen_more options S texts us others ws rest other)
chosen_more options S ts us vs ws (left_out text texts others is rest) other =
    left_out text (texts ++ us) (vs ++ ws) is (chosen_more options S texts us vs ws rest other)

pub grows_one : (options : Options) (S : VersionValue → Type 0) (text : List ℕ) (v : VersionValue) (k l : Kept)
    → IsChosen options S text v
    → ((listing : Listing) (versions : List VersionValue) → IsKept listing versions k
    → IsKept listing (versions ++ (v ∷ [])) l) → Grows options S (text ∷ []) k l
grows_one options S text v k l is added = λ before has. record {
  versions = has.versions ++ (v ∷ []);
  chosen = chosen_more options S before (text ∷ []) has.versions (v ∷ []) has.chosen (chosen text v [] [] is none);
  is_kept = added options.listing has.versions has.is_kept;
}

pub grows_left : (options : Options) (S : VersionValue → Type 0) (text : List ℕ) (k : Kept)
    → IsLeftOut options S text → Grows options S (text ∷ []) k k
grows_left options S text k is = λ before has. record {
  versions = has.versions;
  chosen = rw (append-nil has.versions)
      at (chosen_more options S before (text ∷ []) has.versions [] has.chosen (left_out text [] [] is none));
  is_kept = has.is_kept;
}

pub grows_none : (options : Options) (S : VersionValue → Type 0) (k : Kept) → Grows options S [] k k
grows_none options S k = λ before has. rw (append-nil before) has

grows_trans : (options : Options) (S : VersionValue → Type 0) (ts us : List (List ℕ)) (k l m : Kept)
    → Grows options S ts k l → Grows options S us l m → Grows options S (ts ++ us) k m
grows_trans options S ts us k l m first second = λ before has.
    rw (append_assoc before ts us) at (second (before ++ ts) (first before has))

pub on_ok : {A E P Q : Type 0} (r : Result A E) → (P → Q) → OnOk r P → OnOk r Q
on_ok (Ok x) f p = f p
on_ok (Err e) f p = tt

-- ---- lines

abbrev pub AddsLines : Options → (VersionValue → Type 0) → (k l : Kept) → Type 0
AddsLines options S k l = (lines : List (List ℕ)) × Grows options S lines k l

pub lines_none : (options : Options) (S : VersionValue → Type 0) (k : Kept) → AddsLines options S k k
lines_none options S k = ([], grows_none options S k)

pub lines_more : (options : Options) (S : VersionValue → Type 0) (k l m : Kept) (line : List ℕ)
    → AddsLines options S k l → Grows options S (line ∷ []) l m → AddsLines options S k m
lines_more options S k l m line before one =
    (before.0 ++ (line ∷ []), grows_trans options S before.0 (line ∷ []) k l m before.1 one)

-- ---- words

-- the words before a place were added, and those from it on are left
pub record WordsLeft {T : Type 0} (value : T → List ℕ) (options : Options) (S : VersionValue → Type 0) (words : List T)
    (i : ℕ) (k l : Kept) : Type 0 where
  pub texts : List (List ℕ)
  pub placed : (later : List (List ℕ)) → AreTexts (map value (drop i words)) later
      → AreTexts (map value words) (texts ++ later)
  pub grown : Grows options S texts k l

pub words_none : {T : Type 0} (value : T → List ℕ) (options : Options) (S : VersionValue → Type 0) (words : List T)
    (k : Kept) → WordsLeft value options S words 0 k k
words_none value options S words k = record { texts = []; placed = λ later are. are; grown = grows_none options S k }

-- the texts of a word are added
abbrev pub AddsWord : Options → (VersionValue → Type 0) → (text : List ℕ) → (k l : Kept) → Type 0
AddsWord options S text k l = (texts : List (List ℕ)) × StandsFor text texts × Grows options S texts k l

pub word_added : (options : Options) (S : VersionValue → Type 0) (text : List ℕ) (k l : Kept)
    → bytes_eq text dash ≡ false → Grows options S (text ∷ []) k l → AddsWord options S text k l
word_added options S text k l off one = (
  text ∷ [],
  λ rest later are. word text rest later (λ same. true≢false (sym ((bytes_eq-Decides text dash).1 same) ∙ off)) are,
  one,
)

pub lines_added : (options : Options) (S : VersionValue → Type 0) (text : List ℕ) (k l : Kept)
    → bytes_eq text dash ≡ true → AddsLines options S k l → AddsWord options S text k l
lines_added options S text k l on all =
    (all.0, λ rest later are. rw ((bytes_eq-Decides text dash).0 on) (lines rest all.0 later are), all.1)

pub words_more : {T : Type 0} (value : T → List ℕ) (options : Options) (S : VersionValue → Type 0) (words : List T)
    (i : ℕ) (x : T) (k l m : Kept) → i < length words → AddsWord options S (value (get_or words i x)) l m
    → WordsLeft value options S words i k l → WordsLeft value options S words (i + 1) k m
words_more value options S words i x k l m small one left =
    let cut : drop i words ≡ get_or words i x ∷ drop (i + 1) words = drop_more words i x small in
    record {
      texts = left.texts ++ one.0;
      placed = λ later are. rw (append_assoc left.texts one.0 later)
          (left.placed (one.0 ++ later) (rw cut (one.1 (map value (drop (i + 1) words)) later are)));
      grown = grows_trans options S left.texts one.0 k l m left.grown one.2;
    }

pub words_done : {T : Type 0} (value : T → List ℕ) (options : Options) (S : VersionValue → Type 0) (words : List T)
    (i : ℕ) (k l : Kept) → length words ≤ i → WordsLeft value options S words i k l
    → (texts : List (List ℕ)) × AreTexts (map value words) texts × Grows options S texts k l
words_done value options S words i k l past left = (
  left.texts,
  rw (append-nil left.texts) at (left.placed [] (rw (drop_all i words past) no_texts)),
  left.grown,
)

-- since nothing was kept before
pub all_gathered : (options : Options) (S : VersionValue → Type 0) (words texts : List (List ℕ)) (k l : Kept)
    → IsKept options.listing [] k → AreAllTexts words texts → Grows options S texts k l → IsGathered options S words l
all_gathered options S words texts k l start are grown = record {
  texts = texts;
  placed = are;
  of_texts = grown [] (record { versions = []; chosen = none; is_kept = start });
}
