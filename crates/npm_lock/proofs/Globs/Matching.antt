-- The function that says whether a folder is one of a pattern agrees with the grammar of patterns.
use Rattle.std.proofs.Common.{◌≡◌, ◌∙◌, ◌==◌, ◌∷◌, ◌++◌, ◌+◌, ◌||◌, ℕ, List, [], Bool, true, false, ap, append_assoc, arith}
use Rattle.std.proofs.Common.{bytes_eq, codes, if◌then◌else◌, inl, inr, length, length-append, nat_eq, ne_eqb, not, refl, subst, subst₂, sym}
use Rattle.std.proofs.lemmas.Bool.{and_from, and_parts, or_cases, or_left, or_right}
use Rattle.std.proofs.lemmas.List.Folds.{list_any-append}
use Rattle.std.proofs.lemmas.Slice.Eq.{bytes_eq-Decides}
use Rattle.std.specs.List.{AllByRecursion, ends_with, list_any}
use Rattle.std.specs.Option.{option_map_or}
use Rattle.npm_texts.specs.Texts.{rest_after, without_end}
use Rattle.npm_lock.specs.PatternGrammar.{IsPlain, Matches, by_star, by_stars, end, itself, parts_of}
use Rattle.npm_lock.specs.Private.Patterns.{is_rest}
use Rattle.npm_lock.specs.Private.PatternSteps.{is_base, is_matched, stem_of}
use Rattle.npm_lock.proofs.Globs.Dots.{rest-again, rest-takes, star_of}
use Rattle.npm_lock.proofs.Globs.Ends.{Whole, closed, empty, end-gone, ends, no-star, no-stars, no-stars_alone, stem-star}
use Rattle.npm_lock.proofs.Globs.Ends.{stem-stars, two-stars, whole-after, whole-part}
use Rattle.npm_lock.proofs.Globs.Forms.{Form, plain, plain-split, starred, treed}
use Rattle.npm_lock.proofs.Globs.Parts.{HasFirst, Path, alone, before, first-part, is_slash, one-part, parts-alone}
use Rattle.npm_lock.proofs.Globs.Parts.{parts-before, path-of, same-path}
use Rattle.npm_lock.proofs.StarPatterns.{rest_is}

-- ---- a part, and what follows it

-- what is left of a path after the first part of a pattern of several
record HasBelow (part : List ℕ) (pattern path : List (List ℕ)) : Type 0 where
  pub rest : List (List ℕ)
  pub whole : path ≡ part ∷ rest
  pub matches : Matches pattern rest

head-takes : (pattern path : List (List ℕ)) → Matches pattern path → (part first : List ℕ) (others : List (List ℕ))
    → pattern ≡ part ∷ first ∷ others → HasBelow part (first ∷ others) path
head-takes pattern path end part first others is = cc is
head-takes pattern path (itself p patterns paths matches) part first others is =
    let same : p ≡ part = cc is in
    let rest : patterns ≡ first ∷ others = cc is in
    record {
      rest = paths;
      whole = ap (λ (l : List ℕ). l ∷ paths) same;
      matches = subst (λ (l : List (List ℕ)). Matches l paths) rest matches;
    }
head-takes pattern path (by_star p some shown) part first others is = cc is
head-takes pattern path (by_stars paths some shown) part first others is = cc is

-- the path is the part alone, or goes on after it
data Below (part text folder : List ℕ) : Type 0 where
  at_part : folder ≡ part → Matches (parts_of text) [] → Below part text folder
  after_part : (rest : List ℕ) → folder ≡ part ++ (47 ∷ rest) → Matches (parts_of text) (parts_of rest)
      → Below part text folder

below-by : (part text folder : List ℕ) → Path folder → (rest : List (List ℕ)) → parts_of folder ≡ part ∷ rest
    → Matches (parts_of text) rest → Below part text folder
below-by part text folder (alone single) rest is m =
    let one : folder ∷ [] ≡ part ∷ rest = sym (parts-alone folder single) ∙ is in
    let same : folder ≡ part = cc one in
    let none : rest ≡ [] = cc one in
    at_part same (subst (Matches (parts_of text)) none m)
below-by part text folder (before first others whole single path) rest is m =
    let both : first ∷ parts_of others ≡ part ∷ rest = sym (ap parts_of whole ∙ parts-before first others single) ∙ is in
    let same : first ≡ part = cc both in
    let left : rest ≡ parts_of others = cc both in
    after_part others (whole ∙ ap (λ (l : List ℕ). l ++ (47 ∷ others)) same) (subst (Matches (parts_of text)) left m)

below-takes : (part text folder : List ℕ) → list_any is_slash part ≡ false
    → Matches (parts_of (part ++ (47 ∷ text))) (parts_of folder) → Below part text folder
below-takes part text folder none m =
    let next = first-part text (path-of text) in
    let head = head-takes (parts_of (part ++ (47 ∷ text))) (parts_of folder) m part next.first next.others
    (parts-before part text none ∙ ap (λ (l : List (List ℕ)). part ∷ l) next.whole) in
    below-by part text folder (path-of folder) head.rest head.whole
    (subst (λ (l : List (List ℕ)). Matches l head.rest) (sym next.whole) head.matches)

below-again : (part text rest : List ℕ) → list_any is_slash part ≡ false → Matches (parts_of text) (parts_of rest)
    → Matches (parts_of (part ++ (47 ∷ text))) (parts_of (part ++ (47 ∷ rest)))
below-again part text rest none m =
    subst₂ Matches (sym (parts-before part text none)) (sym (parts-before part rest none))
    (itself part (parts_of text) (parts_of rest) m)

-- ---- a stem and a star

-- the folder is the base of `**`, or the star matches what follows the stem
data Fits (is_tree : Bool) (stem folder : List ℕ) : Type 0 where
  base : is_tree ≡ true → stem ≡ folder ++ (47 ∷ []) → Fits is_tree stem folder
  inside : (rest : List ℕ) → folder ≡ stem ++ rest → is_rest is_tree rest ≡ true → Fits is_tree stem folder

star-parts : (is_tree : Bool) → parts_of (star_of is_tree) ≡ star_of is_tree ∷ []
star-parts true = refl
star-parts false = refl

-- only `**` alone matches no part
matches-nothing : (pattern path : List (List ℕ)) → Matches pattern path → path ≡ [] → HasFirst pattern
    → pattern ≡ codes "**" ∷ []
matches-nothing pattern path end is has = cc has.whole
matches-nothing pattern path (itself p patterns paths matches) is has = cc is
matches-nothing pattern path (by_star p some shown) is has = cc is
matches-nothing pattern path (by_stars paths some shown) is has = refl

closed-slash : (text star : List ℕ) → (start : List ℕ) → text ≡ start ++ (47 ∷ []) → list_any is_slash (text ++ star) ≡ true
closed-slash text star start is =
    let has : list_any is_slash text ≡ true =
    ap (list_any is_slash) is ∙ list_any-append is_slash start (47 ∷ []) ∙ or_right (list_any is_slash start) true refl in
    list_any-append is_slash text star ∙ or_left (list_any is_slash text) (list_any is_slash star) has

only-star : (is_tree : Bool) (stem : List ℕ) → Whole stem → stem ++ star_of is_tree ≡ codes "**"
    → (is_tree ≡ true) × (stem ≡ [])
only-star true stem (empty none) is = (refl, none)
only-star false stem (empty none) is =
    let same : codes "*" ≡ codes "**" = sym (ap (λ (l : List ℕ). l ++ codes "*") none) ∙ is in cc same
only-star is_tree stem (closed start whole) is =
    let never : true ≡ false = sym (closed-slash stem (star_of is_tree) start whole) ∙ ap (list_any is_slash) is in cc never

stem-inside : (is_tree : Bool) (stem part rest folder inner : List ℕ) → stem ≡ part ++ (47 ∷ rest)
    → folder ≡ part ++ (47 ∷ inner) → Fits is_tree rest inner → Fits is_tree stem folder
stem-inside is_tree stem part rest folder inner is same (base tree at) =
    base tree (is ∙ ap (λ (l : List ℕ). part ++ (47 ∷ l)) at ∙ sym (append_assoc part (47 ∷ inner) (47 ∷ []))
    ∙ ap (λ (l : List ℕ). l ++ (47 ∷ [])) (sym same))
stem-inside is_tree stem part rest folder inner is same (inside left at fits) =
    inside left (same ∙ ap (λ (l : List ℕ). part ++ (47 ∷ l)) at ∙ sym (append_assoc part (47 ∷ rest) left)
    ∙ ap (λ (l : List ℕ). l ++ left) (sym is)) fits

stem-below : (is_tree : Bool) (stem part rest folder : List ℕ) → stem ≡ part ++ (47 ∷ rest) → Whole rest
    → Below part (rest ++ star_of is_tree) folder
    → ((inner : List ℕ) → Matches (parts_of (rest ++ star_of is_tree)) (parts_of inner) → Fits is_tree rest inner)
    → Fits is_tree stem folder
stem-below is_tree stem part rest folder is whole (at_part same m) recur =
    let text = rest ++ star_of is_tree in
    let only = one-part text (codes "**")
    (matches-nothing (parts_of text) [] m refl (first-part text (path-of text))) in
    let both = only-star is_tree rest whole only in
    base both.0 (is ∙ ap (λ (l : List ℕ). part ++ (47 ∷ l)) both.1 ∙ ap (λ (l : List ℕ). l ++ (47 ∷ [])) (sym same))
stem-below is_tree stem part rest folder is whole (after_part inner same m) recur =
    stem-inside is_tree stem part rest folder inner is same (recur inner m)

stem-takes : (is_tree : Bool) (stem : List ℕ) → Path stem → Whole stem → (folder : List ℕ)
    → Matches (parts_of (stem ++ star_of is_tree)) (parts_of folder) → Fits is_tree stem folder
stem-takes is_tree stem (alone none) whole folder m =
    let nothing = whole-part stem none whole in
    let parts : parts_of (stem ++ star_of is_tree) ≡ star_of is_tree ∷ [] =
    ap (λ (l : List ℕ). parts_of (l ++ star_of is_tree)) nothing ∙ star-parts is_tree in
    inside folder (ap (λ (l : List ℕ). l ++ folder) (sym nothing))
    (rest-takes is_tree folder (subst (λ (l : List (List ℕ)). Matches l (parts_of folder)) parts m))
stem-takes is_tree stem (before part rest is none path) whole folder m =
    let pattern : stem ++ star_of is_tree ≡ part ++ (47 ∷ (rest ++ star_of is_tree)) =
    ap (λ (l : List ℕ). l ++ star_of is_tree) is ∙ append_assoc part (47 ∷ rest) (star_of is_tree) in
    let whole_rest = whole-after part rest (subst Whole is whole) in
    stem-below is_tree stem part rest folder is whole_rest
    (below-takes part (rest ++ star_of is_tree) folder none
    (subst (λ (l : List ℕ). Matches (parts_of l) (parts_of folder)) pattern m))
    (λ inner fits. stem-takes is_tree rest path whole_rest inner fits)

inside-again : (is_tree : Bool) (stem : List ℕ) → Path stem → Whole stem → (left : List ℕ) → is_rest is_tree left ≡ true
    → Matches (parts_of (stem ++ star_of is_tree)) (parts_of (stem ++ left))
inside-again is_tree stem (alone none) whole left fits =
    subst (λ (s : List ℕ). Matches (parts_of (s ++ star_of is_tree)) (parts_of (s ++ left)))
    (sym (whole-part stem none whole))
    (subst (λ (l : List (List ℕ)). Matches l (parts_of left)) (sym (star-parts is_tree)) (rest-again is_tree left fits))
inside-again is_tree stem (before part rest is none path) whole left fits =
    let inner = inside-again is_tree rest path (whole-after part rest (subst Whole is whole)) left fits in
    subst (λ (s : List ℕ). Matches (parts_of (s ++ star_of is_tree)) (parts_of (s ++ left))) (sym is)
    (subst₂ (λ (p q : List ℕ). Matches (parts_of p) (parts_of q))
    (sym (append_assoc part (47 ∷ rest) (star_of is_tree))) (sym (append_assoc part (47 ∷ rest) left))
    (below-again part (rest ++ star_of is_tree) (rest ++ left) none inner))

base-again : (folder : List ℕ) → Path folder → Matches (parts_of (folder ++ (47 ∷ codes "**"))) (parts_of folder)
base-again folder (alone none) =
    subst₂ Matches (sym (parts-before folder (codes "**") none)) (sym (parts-alone folder none))
    (itself folder (codes "**" ∷ []) [] (by_stars [] (λ is. cc is) tt))
base-again folder (before part rest is none path) =
    subst (λ (f : List ℕ). Matches (parts_of (f ++ (47 ∷ codes "**"))) (parts_of f)) (sym is)
    (subst (λ (l : List ℕ). Matches (parts_of l) (parts_of (part ++ (47 ∷ rest))))
    (sym (append_assoc part (47 ∷ rest) (47 ∷ codes "**")))
    (below-again part (rest ++ (47 ∷ codes "**")) rest none (base-again rest path)))

stem-again : (is_tree : Bool) (stem : List ℕ) → Whole stem → (folder : List ℕ) → Fits is_tree stem folder
    → Matches (parts_of (stem ++ star_of is_tree)) (parts_of folder)
stem-again true stem whole folder (base tree at) =
    let text : stem ++ codes "**" ≡ folder ++ (47 ∷ codes "**") =
    ap (λ (l : List ℕ). l ++ codes "**") at ∙ append_assoc folder (47 ∷ []) (codes "**") in
    subst (λ (l : List ℕ). Matches (parts_of l) (parts_of folder)) (sym text) (base-again folder (path-of folder))
stem-again false stem whole folder (base tree at) = cc tree
stem-again is_tree stem whole folder (inside left at fits) =
    subst (λ (f : List ℕ). Matches (parts_of (stem ++ star_of is_tree)) (parts_of f)) (sym at)
    (inside-again is_tree stem (path-of stem) whole left fits)

-- ---- no star

self : (parts : List (List ℕ)) → Matches parts parts
self [] = end
self (part ∷ parts) = itself part parts parts (self parts)

plain-parts : (text : List ℕ) → Path text → IsPlain text → AllByRecursion IsPlain (parts_of text)
plain-parts text (alone none) is_plain =
    subst (AllByRecursion IsPlain) (sym (parts-alone text none)) (is_plain, tt)
plain-parts text (before part rest whole none path) is_plain =
    let both = plain-split part rest (subst IsPlain whole is_plain) in
    subst (AllByRecursion IsPlain) (sym (ap parts_of whole ∙ parts-before part rest none))
    (both.0, plain-parts rest path both.1)

plain-takes : (pattern path : List (List ℕ)) → Matches pattern path → AllByRecursion IsPlain pattern → pattern ≡ path
plain-takes pattern path end all = refl
plain-takes pattern path (itself part patterns paths matches) all =
    ap (λ (l : List (List ℕ)). part ∷ l) (plain-takes patterns paths matches all.1)
plain-takes pattern path (by_star part some shown) all = cc all.0
plain-takes pattern path (by_stars paths some shown) all = cc all.0

-- ---- the base of `**`

base-takes : (folder stem : List ℕ) → Whole stem → is_base folder stem ≡ true → stem ≡ folder ++ (47 ∷ [])
base-takes folder stem (empty is) h =
    let never : false ≡ true = sym (ap (is_base folder) is) ∙ h in cc never
base-takes folder stem (closed start is) h =
    let parts = and_parts (not (length stem == 0)) (bytes_eq folder (without_end (codes "/") stem)) h in
    let same : folder ≡ start =
    (bytes_eq-Decides folder (without_end (codes "/") stem)).0 parts.1 ∙ ap (without_end (codes "/")) is
    ∙ end-gone start (codes "/") in
    is ∙ ap (λ (l : List ℕ). l ++ (47 ∷ [])) (sym same)

base-is : (folder stem : List ℕ) → stem ≡ folder ++ (47 ∷ []) → is_base folder stem ≡ true
base-is folder stem is =
    let long : length stem ≡ length folder + 1 = ap length is ∙ length-append folder (47 ∷ []) in
    let some : (length stem == 0) ≡ false = ne_eqb (length stem) 0 (omega (arith, long)) in
    and_from (not (length stem == 0)) (bytes_eq folder (without_end (codes "/") stem)) (ap not some)
    ((bytes_eq-Decides folder (without_end (codes "/") stem)).1
    (sym (ap (without_end (codes "/")) is ∙ end-gone folder (codes "/"))))

-- ---- the function

abbrev after_stem : (is_tree : Bool) → (stem folder : List ℕ) → Bool
after_stem is_tree stem folder = option_map_or (is_rest is_tree) (rest_after stem folder) false

-- what `is_matched` says, by the stars at the end and by the stem
abbrev matched_by : (folder pattern : List ℕ) (two one : Bool) (stem : List ℕ) → Bool
matched_by folder pattern two one stem = if two then is_base folder stem || after_stem true stem folder
    else (if one then after_stem false stem folder else bytes_eq pattern folder)

matched-value : (folder pattern : List ℕ) (two one : Bool) (stem : List ℕ) → ends_with nat_eq pattern (codes "**") ≡ two
    → ends_with nat_eq pattern (codes "*") ≡ one → stem_of pattern ≡ stem
    → is_matched folder pattern ≡ matched_by folder pattern two one stem
matched-value folder pattern two one stem is_two is_one is =
    ap (λ (b : Bool). matched_by folder pattern b (ends_with nat_eq pattern (codes "*")) (stem_of pattern)) is_two
    ∙ ap (λ (b : Bool). matched_by folder pattern two b (stem_of pattern)) is_one
    ∙ ap (matched_by folder pattern two one) is

plain-value : (pattern folder : List ℕ) → IsPlain pattern → is_matched folder pattern ≡ bytes_eq pattern folder
plain-value pattern folder none = matched-value folder pattern false false (stem_of pattern)
    (no-stars_alone pattern none) (no-star pattern none) refl

star-value : (stem folder : List ℕ) → IsPlain stem → is_matched folder (stem ++ codes "*") ≡ after_stem false stem folder
star-value stem folder none = matched-value folder (stem ++ codes "*") false true stem
    (no-stars stem none) ((ends (stem ++ codes "*") (codes "*")).1 (stem, refl)) (stem-star stem (no-star stem none))

stars-value : (stem folder : List ℕ)
    → is_matched folder (stem ++ codes "**") ≡ (is_base folder stem || after_stem true stem folder)
stars-value stem folder = matched-value folder (stem ++ codes "**") true true stem
    ((ends (stem ++ codes "**") (codes "**")).1 (stem, refl))
    ((ends (stem ++ codes "**") (codes "*")).1 (stem ++ codes "*", two-stars stem)) (stem-stars stem)

-- what follows the stem
after-takes : (is_tree : Bool) (stem folder : List ℕ) → after_stem is_tree stem folder ≡ true → Fits is_tree stem folder
after-takes is_tree stem folder h = let rest = (rest_is is_tree stem folder).0 h in inside rest.0 rest.1 rest.2

tree-takes : (stem folder : List ℕ) → Whole stem → (is_base folder stem || after_stem true stem folder) ≡ true
    → Fits true stem folder
tree-takes stem folder whole h = elim (or_cases (is_base folder stem) (after_stem true stem folder) h) [
  | inl is ↦ base refl (base-takes folder stem whole is)
  | inr is ↦ after-takes true stem folder is
]

tree-again : (stem folder : List ℕ) → Fits true stem folder → (is_base folder stem || after_stem true stem folder) ≡ true
tree-again stem folder (base tree at) =
    or_left (is_base folder stem) (after_stem true stem folder) (base-is folder stem at)
tree-again stem folder (inside left at fits) =
    or_right (is_base folder stem) (after_stem true stem folder)
    ((rest_is true stem folder).1 (left, at, fits))

star-again : (stem folder : List ℕ) → Fits false stem folder → after_stem false stem folder ≡ true
star-again stem folder (base tree at) = cc tree
star-again stem folder (inside left at fits) = (rest_is false stem folder).1 (left, at, fits)

pub matched-takes : (pattern folder : List ℕ) → Form pattern → is_matched folder pattern ≡ true
    → Matches (parts_of pattern) (parts_of folder)
matched-takes pattern folder (plain none not_whole) h =
    let same = (bytes_eq-Decides pattern folder).0 (sym (plain-value pattern folder none) ∙ h) in
    subst (λ (text : List ℕ). Matches (parts_of pattern) (parts_of text)) same (self (parts_of pattern))
matched-takes pattern folder (starred stem is none whole) h =
    subst (λ (text : List ℕ). Matches (parts_of text) (parts_of folder)) (sym is) (stem-again false stem whole folder
    (after-takes false stem folder (sym (ap (is_matched folder) is ∙ star-value stem folder none) ∙ h)))
matched-takes pattern folder (treed stem is none whole) h =
    subst (λ (text : List ℕ). Matches (parts_of text) (parts_of folder)) (sym is) (stem-again true stem whole folder
    (tree-takes stem folder whole (sym (ap (is_matched folder) is ∙ stars-value stem folder) ∙ h)))

pub matched-again : (pattern folder : List ℕ) → Form pattern → Matches (parts_of pattern) (parts_of folder)
    → is_matched folder pattern ≡ true
matched-again pattern folder (plain none not_whole) m =
    let same = same-path pattern folder
    (plain-takes (parts_of pattern) (parts_of folder) m (plain-parts pattern (path-of pattern) none)) in
    plain-value pattern folder none ∙ (bytes_eq-Decides pattern folder).1 same
matched-again pattern folder (starred stem is none whole) m =
    ap (is_matched folder) is ∙ star-value stem folder none
    ∙ star-again stem folder (stem-takes false stem (path-of stem) whole folder
    (subst (λ (text : List ℕ). Matches (parts_of text) (parts_of folder)) is m))
matched-again pattern folder (treed stem is none whole) m =
    ap (is_matched folder) is ∙ stars-value stem folder
    ∙ tree-again stem folder (stem-takes true stem (path-of stem) whole folder
    (subst (λ (text : List ℕ). Matches (parts_of text) (parts_of folder)) is m))
