-- Names that are asked for, one ask after the other.
use Rattle.std.proofs.Common.{arith, drop, get_or, length, map, subst, take, ◌+◌, ◌<◌, ◌≡◌, ◌∙◌, ◌⊎◌, ◌++◌, ℕ, List, [], ◌∷◌, Bool, None, Some, true, false, Ok, ap, append-nil, append_assoc, bytes_eq, cond, inl, inr, refl, string_bytes, sym}
use Rattle.std.proofs.lemmas.List.{map-append, take_more}
use Rattle.std.proofs.lemmas.List.Concat.{flat_map-append}
use Rattle.std.proofs.lemmas.List.Elements.{All-append, All-cons, All-head, All-nil, All-push, All-tail, All-weaker, Contains-append_cases, Contains-append_left, Contains-append_right, Contains-push, Contains-push_cases}
use Rattle.std.proofs.lemmas.Slice.Eq.{bytes_eq-Decides}
use Rattle.std.specs.BTreeSet.{contains_text}
use Rattle.std.specs.List.{All, Contains, flat_map}
use Rattle.npm_texts.specs.RegistrySpec.{RegistrySpecValue, registry_spec}
use Rattle.version_solving.specs.declared.ask.Ask.{Ask}
use Rattle.npm_resolve.specs.Asks.{AskValue, RulesValue, ask_value, is_registered}
use Rattle.npm_resolve.specs.declared.candidates.options.Omits.{Omits}
use Rattle.npm_resolve.specs.declared.candidates.options.Options.{Options}
use Rattle.npm_resolve.specs.declared.candidates.owner.Reach.{Reach}
use Rattle.npm_pick_reports.specs.Loading.{Loads}
use Rattle.npm_resolve.specs.Documents.{AreAllRead, ArePeersOf, IsAskedAs, IsFound, IsRead, all_asked}
use Rattle.npm_resolve.specs.Documents as Reading
use Rattle.npm_resolve.specs.Private.Gathering.{AreAdded, AreGathered, AreHeld, IsAnswered, IsNoted, IsRequested, IsWaiting, is_seen}
use Rattle.npm_resolve.specs.Private.Gathering as Gathered
use Rattle.npm_resolve.specs.declared.documents.Document.{Document}
use Rattle.npm_resolve.specs.declared.requests.Request.{Request}
use Rattle.npm_resolve.specs.declared.requests.Requests.{Requests}
use Rattle.npm_pick.specs.Lemmas.Zips.{zip_push}

-- ---- asks among more asks

module _ (xs ys : List AskValue) (name of_package : List ℕ) where
  asked_left : IsAskedAs xs name of_package → IsAskedAs (xs ++ ys) name of_package
  asked_left a = record {
    ask = a.ask;
    there = Contains-append_left xs ys a.ask a.there;
    of_name = a.of_name;
    request = a.request;
    is = a.is;
    names = a.names;
  }

  asked_right : IsAskedAs ys name of_package → IsAskedAs (xs ++ ys) name of_package
  asked_right a = record {
    ask = a.ask;
    there = Contains-append_right xs ys a.ask a.there;
    of_name = a.of_name;
    request = a.request;
    is = a.is;
    names = a.names;
  }

requested_left : (xs ys : List AskValue) (requests : List Request) → All (IsRequested xs) requests → All (IsRequested (xs ++ ys)) requests
requested_left xs ys requests all = All-weaker (IsRequested xs) (IsRequested (xs ++ ys))
    (λ r. asked_left xs ys (string_bytes r.name) (string_bytes r.package)) requests all

requested_right : (xs ys : List AskValue) (requests : List Request) → All (IsRequested ys) requests → All (IsRequested (xs ++ ys)) requests
requested_right xs ys requests all = All-weaker (IsRequested ys) (IsRequested (xs ++ ys))
    (λ r. asked_right xs ys (string_bytes r.name) (string_bytes r.package)) requests all

waiting_left : (xs ys : List Request) (name : List ℕ) → IsWaiting xs name → IsWaiting (xs ++ ys) name
waiting_left xs ys name w = (w.0, Contains-append_left xs ys w.0 w.1, w.2)

waiting_right : (xs ys : List Request) (name : List ℕ) → IsWaiting ys name → IsWaiting (xs ++ ys) name
waiting_right xs ys name w = (w.0, Contains-append_right xs ys w.0 w.1, w.2)

-- ---- what is added

pub none_added : (a : Requests) → AreAdded [] a a
none_added a = record {
  added = [];
  queued = sym (append-nil a.queue.items);
  requested = All-nil (IsRequested []);
  kept = λ name h. h;
  seen = All-nil (λ (ask : AskValue). is_registered ask ≡ true → is_seen a ask.name ≡ true);
  either = λ name h. inl h;
}

module _ (xs ys : List AskValue) (a b c : Requests) (one : AreAdded xs a b) (two : AreAdded ys b c) where
  either : (name : List ℕ) → (is_seen b name ≡ true) ⊎ IsWaiting two.added name
      → (is_seen a name ≡ true) ⊎ IsWaiting (one.added ++ two.added) name
  either name (inr waiting) = inr (waiting_right one.added two.added name waiting)
  either name (inl before) = elim (one.either name before) [
    | inl older ↦ inl older
    | inr waiting ↦ inr (waiting_left one.added two.added name waiting)
  ]

  pub added_more : AreAdded (xs ++ ys) a c
  added_more = record {
    added = one.added ++ two.added;
    queued = two.queued ∙ ap (λ l. l ++ two.added) one.queued ∙ append_assoc a.queue.items one.added two.added;
    requested = All-append (IsRequested (xs ++ ys)) one.added two.added (requested_left xs ys one.added one.requested)
        (requested_right xs ys two.added two.requested);
    kept = λ name h. two.kept name (one.kept name h);
    seen = All-append (λ (ask : AskValue). is_registered ask ≡ true → is_seen c ask.name ≡ true) xs ys
        (All-weaker (λ (ask : AskValue). is_registered ask ≡ true → is_seen b ask.name ≡ true)
        (λ (ask : AskValue). is_registered ask ≡ true → is_seen c ask.name ≡ true)
        (λ ask seen registered. two.kept ask.name (seen registered)) xs one.seen) two.seen;
    either = λ name h. either name (two.either name h);
  }

-- ---- one ask

cond_later : (t b : Bool) → b ≡ true → cond t true b ≡ true
cond_later true b h = refl
cond_later false b h = h

cond_either : (t b : Bool) → cond t true b ≡ true → (b ≡ true) ⊎ (t ≡ true)
cond_either true b h = inr refl
cond_either false b h = inl h

same_text : (x y : List ℕ) → bytes_eq x y ≡ true → x ≡ y
same_text x y h = (bytes_eq-Decides x y).0 h

itself : (x : List ℕ) → bytes_eq x x ≡ true
itself x = (bytes_eq-Decides x x).1 refl

module _ (ask : AskValue) (request : RegistrySpecValue) (a : Requests) (is : registry_spec ask.name ask.spec ≡ Some request) where
  known_added : is_seen a ask.name ≡ true → AreAdded (ask ∷ []) a a
  known_added seen = record {
    added = [];
    queued = sym (append-nil a.queue.items);
    requested = All-nil (IsRequested (ask ∷ []));
    kept = λ name h. h;
    seen = All-cons (λ (one : AskValue). is_registered one ≡ true → is_seen a one.name ≡ true) ask [] (λ registered. seen)
        (All-nil (λ (one : AskValue). is_registered one ≡ true → is_seen a one.name ≡ true));
    either = λ name h. inl h;
  }

  module _ (b : Requests) where
    module _ (r : Request) (named : string_bytes r.name ≡ ask.name) (packaged : string_bytes r.package ≡ request.name)
        (queued : b.queue.items ≡ a.queue.items ++ (r ∷ []))
        (seen : (other : List ℕ) → is_seen b other ≡ cond (bytes_eq ask.name other) true (is_seen a other)) where
      waits : (name : List ℕ) → (is_seen a name ≡ true) ⊎ (bytes_eq ask.name name ≡ true)
          → (is_seen a name ≡ true) ⊎ IsWaiting (r ∷ []) name
      waits name (inl before) = inl before
      waits name (inr same) = inr (r, Contains-push [] r, named ∙ same_text ask.name name same)

      fresh_added : AreAdded (ask ∷ []) a b
      fresh_added = record {
        added = r ∷ [];
        queued = queued;
        requested = All-cons (IsRequested (ask ∷ [])) r [] (record {
          ask = ask;
          there = Contains-push [] ask;
          of_name = sym named;
          request = request;
          is = is;
          names = sym packaged;
        }) (All-nil (IsRequested (ask ∷ [])));
        kept = λ name h. seen name ∙ cond_later (bytes_eq ask.name name) (is_seen a name) h;
        seen = All-cons (λ (one : AskValue). is_registered one ≡ true → is_seen b one.name ≡ true) ask []
            (λ registered. seen ask.name ∙ ap (λ t. cond t true (is_seen a ask.name)) (itself ask.name))
            (All-nil (λ (one : AskValue). is_registered one ≡ true → is_seen b one.name ≡ true));
        either = λ name h. waits name (cond_either (bytes_eq ask.name name) (is_seen a name) (sym (seen name) ∙ h));
      }

    pub noted_added : IsNoted ask.name request.name a b → AreAdded (ask ∷ []) a b
    noted_added (Gathered.known seen same) = rw same (known_added seen)
    noted_added (Gathered.fresh r named packaged queued seen) = fresh_added r named packaged queued seen

pub unregistered_added : (ask : AskValue) (a : Requests) → registry_spec ask.name ask.spec ≡ None → AreAdded (ask ∷ []) a a
unregistered_added ask a none = record {
  added = [];
  queued = sym (append-nil a.queue.items);
  requested = All-nil (IsRequested (ask ∷ []));
  kept = λ name h. h;
  seen = All-cons (λ (one : AskValue). is_registered one ≡ true → is_seen a one.name ≡ true) ask []
      (λ registered. let no = rw none at registered in (cc no))
      (All-nil (λ (one : AskValue). is_registered one ≡ true → is_seen a one.name ≡ true));
  either = λ name h. inl h;
}

-- the asks so far, and one more
pub ask_more : (asks : List Ask) (i : ℕ) (none : Ask) (a b c : Requests) → i < length asks
    → AreAdded (map ask_value (take i asks)) a b → AreAdded (ask_value (get_or asks i none) ∷ []) b c
    → AreAdded (map ask_value (take (i + 1) asks)) a c
ask_more asks i none a b c inside one two =
    let ask = ask_value (get_or asks i none) in
    let seen : map ask_value (take (i + 1) asks) ≡ map ask_value (take i asks) ++ (ask ∷ []) =
    ap (map ask_value) (take_more asks i none inside) ∙ map-append ask_value (take i asks) (get_or asks i none ∷ []) in
    subst (λ (l : List AskValue). AreAdded l a c) (sym seen) (added_more (map ask_value (take i asks)) (ask ∷ []) a b c one two)

-- the asks of the candidates so far, and of one more
pub peers_more : (each : List (List AskValue)) (asks : List AskValue) (a b c : Requests)
    → AreAdded (flat_map (λ (l : List AskValue). l) each) a b → AreAdded asks b c
    → AreAdded (flat_map (λ (l : List AskValue). l) (each ++ asks ∷ [])) a c
peers_more each asks a b c one two =
    let all : flat_map (λ (l : List AskValue). l) (each ++ asks ∷ []) ≡ flat_map (λ (l : List AskValue). l) each ++ asks =
    flat_map-append (λ (l : List AskValue). l) each (asks ∷ [])
    ∙ ap (λ l. flat_map (λ (x : List AskValue). x) each ++ l) (append-nil asks) in
    subst (λ (l : List AskValue). AreAdded l a c) (sym all) (added_more (flat_map (λ (l : List AskValue). l) each) asks a b c one two)

-- ---- one document more

asked_more : (wishes : List AskValue) (peers : List (List AskValue)) (more : List AskValue)
    → all_asked wishes (peers ++ more ∷ []) ≡ all_asked wishes peers ++ more
asked_more wishes peers more =
    ap (λ l. wishes ++ l) (flat_map-append (λ (asks : List AskValue). asks) peers (more ∷ []) ∙
    ap (λ l. flat_map (λ (asks : List AskValue). asks) peers ++ l) (append-nil more))
    ∙ sym (append_assoc wishes (flat_map (λ (asks : List AskValue). asks) peers) more)

read_more : (Gives : Loads) (xs ys : List AskValue) (documents more : List Document) (name : List ℕ)
    → IsRead Gives xs documents name → IsRead Gives (xs ++ ys) (documents ++ more) name
read_more Gives xs ys documents more name (Reading.found document there same) =
    Reading.found document (Contains-append_left documents more document there) same
read_more Gives xs ys documents more name (Reading.absent of_package asked none) =
    Reading.absent of_package (asked_left xs ys name of_package asked) none

found_more : (Gives : Loads) (xs ys : List AskValue) (documents : List Document) → All (IsFound Gives xs) documents
    → All (IsFound Gives (xs ++ ys)) documents
found_more Gives xs ys documents all = All-weaker (IsFound Gives xs) (IsFound Gives (xs ++ ys)) (λ document found. record {
  as_package = asked_left xs ys (string_bytes document.name) (string_bytes document.package) found.as_package;
  loaded = found.loaded;
}) documents all

one_of : {X : Type 0} (x y : X) → Contains (x ∷ []) y → x ≡ y
one_of x y h = elim (Contains-push_cases [] x y h) [ inl none ↦ absurd (omega (arith, none.1)) | inr same ↦ same ]

module _ (Gives : Loads) (asked : List AskValue) (documents : List Document) (old popped : Requests) (request : Request)
    (queued : old.queue.items ≡ request ∷ popped.queue.items) (same : popped.seen ≡ old.seen)
    (held : AreHeld Gives asked documents old) where
  was_seen : (name : List ℕ) → is_seen popped name ≡ true → is_seen old name ≡ true
  was_seen name h = ap (λ s. contains_text s name) (sym same) ∙ h

  still_seen : (name : List ℕ) → is_seen old name ≡ true → is_seen popped name ≡ true
  still_seen name h = ap (λ s. contains_text s name) same ∙ h

  all_requested : All (IsRequested asked) (request ∷ popped.queue.items)
  all_requested = subst (λ (l : List Request). All (IsRequested asked) l) queued held.requested

  front : IsAskedAs asked (string_bytes request.name) (string_bytes request.package)
  front = All-head (IsRequested asked) request popped.queue.items all_requested

  others : All (IsRequested asked) popped.queue.items
  others = All-tail (IsRequested asked) request popped.queue.items all_requested

  seen_after : All (λ (ask : AskValue). is_registered ask ≡ true → is_seen popped ask.name ≡ true) asked
  seen_after = All-weaker (λ (ask : AskValue). is_registered ask ≡ true → is_seen old ask.name ≡ true)
      (λ (ask : AskValue). is_registered ask ≡ true → is_seen popped ask.name ≡ true)
      (λ ask seen registered. still_seen ask.name (seen registered)) asked held.seen

  first_or_later : (name : List ℕ) → IsWaiting (request ∷ popped.queue.items) name
      → (string_bytes request.name ≡ name) ⊎ IsWaiting popped.queue.items name
  first_or_later name w = elim (Contains-append_cases (request ∷ []) popped.queue.items w.0 w.1) [
    | inl one ↦ inl (ap (λ (r : Request). string_bytes r.name) (one_of request w.0 one) ∙ w.2)
    | inr there ↦ inr (w.0, there, w.2)
  ]

  cases : (name : List ℕ) → IsWaiting (request ∷ popped.queue.items) name ⊎ IsRead Gives asked documents name
      → (string_bytes request.name ≡ name) ⊎ (IsWaiting popped.queue.items name ⊎ IsRead Gives asked documents name)
  cases name (inr read) = inr (inr read)
  cases name (inl waiting) = elim (first_or_later name waiting) [ inl first ↦ inl first | inr later ↦ inr (inl later) ]

  -- a name that was seen is that of the request, waits, or is read
  parted : (name : List ℕ) → is_seen popped name ≡ true
      → (string_bytes request.name ≡ name) ⊎ (IsWaiting popped.queue.items name ⊎ IsRead Gives asked documents name)
  parted name h = cases name (subst (λ (l : List Request). IsWaiting l name ⊎ IsRead Gives asked documents name) queued
      (held.read name (was_seen name h)))

  module _ (none : Gives (string_bytes request.package) (Ok None)) where
    absent_read : (name : List ℕ)
        → (string_bytes request.name ≡ name) ⊎ (IsWaiting popped.queue.items name ⊎ IsRead Gives asked documents name)
        → IsWaiting popped.queue.items name ⊎ IsRead Gives asked documents name
    absent_read name (inr rest) = rest
    absent_read name (inl is) = inr (Reading.absent (string_bytes request.package)
        (subst (λ (n : List ℕ). IsAskedAs asked n (string_bytes request.package)) is front) none)

    absent_held : AreHeld Gives asked documents popped
    absent_held = record {
      seen = seen_after;
      requested = others;
      found = held.found;
      read = λ name h. absent_read name (parted name h);
    }

  module _ (new : Requests) (document : Document) (more : List AskValue) (named : string_bytes document.name ≡ string_bytes request.name)
      (packaged : string_bytes document.package ≡ string_bytes request.package)
      (gives : Gives (string_bytes request.package) (Ok (Some document.packument))) (added : AreAdded more popped new) where
    this_found : IsFound Gives (asked ++ more) document
    this_found = record {
      as_package = rw (named, packaged) (asked_left asked more (string_bytes request.name) (string_bytes request.package) front);
      loaded = rw packaged gives;
    }

    later_read : (name : List ℕ)
        → (string_bytes request.name ≡ name) ⊎ (IsWaiting popped.queue.items name ⊎ IsRead Gives asked documents name)
        → IsWaiting (popped.queue.items ++ added.added) name ⊎ IsRead Gives (asked ++ more) (documents ++ document ∷ []) name
    later_read name (inl is) = inr (Reading.found document (Contains-push documents document) (named ∙ is))
    later_read name (inr (inl waiting)) = inl (waiting_left popped.queue.items added.added name waiting)
    later_read name (inr (inr read)) = inr (read_more Gives asked more documents (document ∷ []) name read)

    new_read : (name : List ℕ) → (is_seen popped name ≡ true) ⊎ IsWaiting added.added name
        → IsWaiting (popped.queue.items ++ added.added) name ⊎ IsRead Gives (asked ++ more) (documents ++ document ∷ []) name
    new_read name (inl before) = later_read name (parted name before)
    new_read name (inr waiting) = inl (waiting_right popped.queue.items added.added name waiting)

    found_held : AreHeld Gives (asked ++ more) (documents ++ document ∷ []) new
    found_held = record {
      seen = All-append (λ (ask : AskValue). is_registered ask ≡ true → is_seen new ask.name ≡ true) asked more
          (All-weaker (λ (ask : AskValue). is_registered ask ≡ true → is_seen popped ask.name ≡ true)
          (λ (ask : AskValue). is_registered ask ≡ true → is_seen new ask.name ≡ true)
          (λ ask seen registered. added.kept ask.name (seen registered)) asked seen_after) added.seen;
      requested = subst (λ (l : List Request). All (IsRequested (asked ++ more)) l) (sym added.queued)
          (All-append (IsRequested (asked ++ more)) popped.queue.items added.added
          (requested_left asked more popped.queue.items others) (requested_right asked more added.added added.requested));
      found = All-push (IsFound Gives (asked ++ more)) documents document (found_more Gives asked more documents held.found) this_found;
      read = λ name h. subst (λ (l : List Request). IsWaiting l name ⊎ IsRead Gives (asked ++ more) (documents ++ document ∷ []) name)
          (sym added.queued) (new_read name (added.either name h));
    }

module _ (Gives : Loads) (options : Options) (reach : Reach) (rules : RulesValue) (omits : Omits) (wishes : List AskValue) (documents : List Document)
    (old popped new : Requests) (request : Request) (queued : old.queue.items ≡ request ∷ popped.queue.items)
    (same : popped.seen ≡ old.seen) (gathered : AreGathered Gives options reach rules omits wishes documents old) where
  pub gathered_more : (after : List Document)
      → IsAnswered Gives options reach rules omits (string_bytes request.name) (string_bytes request.package) documents after popped new
      → AreGathered Gives options reach rules omits wishes after new
  gathered_more after (Gathered.absent none is stays) = rw (is, stays) (record {
    peers = gathered.peers;
    of_documents = gathered.of_documents;
    held = absent_held Gives (all_asked wishes gathered.peers) documents old popped request queued same gathered.held none;
  })
  gathered_more after (Gathered.found document more named packaged gives is peers added) = rw is (record {
    peers = gathered.peers ++ more ∷ [];
    of_documents = zip_push (ArePeersOf options reach rules omits) documents gathered.peers document more gathered.of_documents peers;
    held = subst (λ (l : List AskValue). AreHeld Gives l (documents ++ document ∷ []) new) (sym (asked_more wishes gathered.peers more))
        (found_held Gives (all_asked wishes gathered.peers) documents old popped request queued same gathered.held
        new document more named packaged gives added);
  })

-- ---- the first and the last

module _ (Gives : Loads) (options : Options) (reach : Reach) (rules : RulesValue) (omits : Omits) (wishes : List AskValue) (start requests : Requests)
    (empty : start.queue.items ≡ []) (unseen : (name : List ℕ) → is_seen start name ≡ false) (added : AreAdded wishes start requests) where
  all_wait : requests.queue.items ≡ added.added
  all_wait = added.queued ∙ ap (λ l. l ++ added.added) empty

  first_wait : (name : List ℕ) → (is_seen start name ≡ true) ⊎ IsWaiting added.added name
      → IsWaiting requests.queue.items name ⊎ IsRead Gives (wishes ++ []) [] name
  first_wait name (inl before) = absurd (let no : true ≡ false = sym before ∙ unseen name in (cc no))
  first_wait name (inr waiting) = inl (rw all_wait waiting)

  begun : AreHeld Gives (wishes ++ []) [] requests
  begun = record {
    seen = rw (append-nil wishes) added.seen;
    requested = rw (append-nil wishes, all_wait) added.requested;
    found = All-nil (IsFound Gives (wishes ++ []));
    read = λ name h. first_wait name (added.either name h);
  }

  pub begins : AreGathered Gives options reach rules omits wishes [] requests
  begins = record { peers = []; of_documents = tt; held = begun }

-- a list that is its own rest
pub nothing_left : {X : Type 0} (xs : List X) → xs ≡ drop 1 xs → xs ≡ []
nothing_left [] h = refl
nothing_left (x ∷ xs) h = absurd (omega (arith, ap length h))

module _ (Gives : Loads) (asked : List AskValue) (documents : List Document) (requests : Requests) (empty : requests.queue.items ≡ [])
    (held : AreHeld Gives asked documents requests) where
  nothing_waits : (name : List ℕ) → IsWaiting requests.queue.items name ⊎ IsRead Gives asked documents name
      → IsRead Gives asked documents name
  nothing_waits name (inr read) = read
  nothing_waits name (inl waiting) =
      let there : Contains ([]) waiting.0 = subst (λ (l : List Request). Contains l waiting.0) empty waiting.1 in
      absurd (omega (arith, there.1))

  pub all_read : AreAllRead Gives asked documents
  all_read = All-weaker (λ (ask : AskValue). is_registered ask ≡ true → is_seen requests ask.name ≡ true)
      (λ (ask : AskValue). is_registered ask ≡ true → IsRead Gives asked documents ask.name)
      (λ ask seen registered. nothing_waits ask.name (held.read ask.name (seen registered))) asked held.seen
