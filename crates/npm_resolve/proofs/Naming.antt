-- Names that are added: those that are named stay so.
use Rattle.std.proofs.Common.{◌≡◌, ◌∙◌, ◌<◌, ◌+◌, ◌++◌, ℕ, List, [], ◌∷◌, ap, append_assoc, append-nil, get_or, length, refl, subst, sym, take}
use Rattle.std.proofs.lemmas.List.Elements.{All-append, All-cons, All-more, All-nil, All-weaker, Contains-append_left, Contains-append_right, Contains-push}
use Rattle.std.specs.List.{All}
use Rattle.version_solving.specs.declared.ask.Ask.{Ask}
use Rattle.version_solving.specs.declared.ask.Asker.{Asker}
use Rattle.version_solving.specs.declared.ask.Listed.{Listed}
use Rattle.npm_resolve.specs.Instance.{AreAskersNamed, HasNone, IsAskNamed, IsNamed}
use Rattle.npm_resolve.specs.Private.Naming.{AreNamesAdded}
use Rattle.npm_resolve.specs.declared.absent.Names.{Names}

-- ---- more names

abbrev Grows : (List Listed → Type 0) → Type 0
Grows P = (xs ys : List Listed) → P xs → P (xs ++ ys)

pub named_right : (name : List ℕ) (xs ys : List Listed) → IsNamed ys name → IsNamed (xs ++ ys) name
named_right name xs ys is = (is.0, Contains-append_right xs ys is.0 is.1, is.2)

pub named_left : (name : List ℕ) → Grows (λ names. IsNamed names name)
named_left name xs ys is = (is.0, Contains-append_left xs ys is.0 is.1, is.2)

asks_grow : (asks : List Ask) → Grows (λ names. All (IsAskNamed names) asks)
asks_grow asks xs ys = All-weaker (IsAskNamed xs) (IsAskNamed (xs ++ ys)) (λ ask. named_left ask.name.now xs ys) asks

askers_grow : (askers : List Asker) → Grows (λ names. AreAskersNamed names askers)
askers_grow askers xs ys = All-weaker (λ (asker : Asker). All (IsAskNamed xs) asker.asks.items)
    (λ (asker : Asker). All (IsAskNamed (xs ++ ys)) asker.asks.items) (λ asker. asks_grow asker.asks.items xs ys) askers

-- ---- one after the other

module _ (listed : List Listed) where
  pub none_added : (P : List Listed → Type 0) (names : Names) → P (listed ++ names.absent.items) → AreNamesAdded listed P names names
  none_added P names is = record { added = []; list = sym (append-nil names.absent.items); none = All-nil HasNone; fact = is }

  both_added : (P Q R : List Listed → Type 0) (old mid new : Names) → Grows P → ((xs : List Listed) → P xs → Q xs → R xs)
      → AreNamesAdded listed P old mid → AreNamesAdded listed Q mid new → AreNamesAdded listed R old new
  both_added P Q R old mid new grows both first then =
      let same : (listed ++ mid.absent.items) ++ then.added ≡ listed ++ new.absent.items =
      append_assoc listed mid.absent.items then.added ∙ ap (λ names. listed ++ names) (sym then.list) in record {
        added = first.added ++ then.added;
        list = then.list ∙ (ap (λ names. names ++ then.added) first.list ∙ append_assoc old.absent.items first.added then.added);
        none = All-append HasNone first.added then.added first.none then.none;
        fact = both (listed ++ new.absent.items) (subst P same (grows (listed ++ mid.absent.items) then.added first.fact)) then.fact;
      }

  pub name_added : (old new : Names) (one : Listed) → new.absent.items ≡ old.absent.items ++ one ∷ [] → HasNone one
      → AreNamesAdded listed (λ names. IsNamed names one.name.now) old new
  name_added old new one is empty = record {
    added = one ∷ [];
    list = is;
    none = All-cons HasNone one [] empty (All-nil HasNone);
    fact = rw is (one, Contains-append_right listed (old.absent.items ++ one ∷ []) one (Contains-push old.absent.items one), refl);
  }

  -- one ask more
  pub ask_added : (asks : List Ask) (i : ℕ) (d : Ask) (old mid new : Names) → i < length asks
      → AreNamesAdded listed (λ names. All (IsAskNamed names) (take i asks)) old mid
      → AreNamesAdded listed (λ names. IsNamed names (get_or asks i d).name.now) mid new
      → AreNamesAdded listed (λ names. All (IsAskNamed names) (take (i + 1) asks)) old new
  ask_added asks i d old mid new inside = both_added (λ names. All (IsAskNamed names) (take i asks))
      (λ names. IsNamed names (get_or asks i d).name.now) (λ names. All (IsAskNamed names) (take (i + 1) asks)) old mid new
      (asks_grow (take i asks)) (λ names. All-more (IsAskNamed names) asks i d inside)

  -- what one candidate more asks for
  pub asker_added : (askers : List Asker) (i : ℕ) (asker : Asker) (old mid new : Names) → i < length askers
      → asker ≡ get_or askers i asker
      → AreNamesAdded listed (λ names. AreAskersNamed names (take i askers)) old mid
      → AreNamesAdded listed (λ names. All (IsAskNamed names) asker.asks.items) mid new
      → AreNamesAdded listed (λ names. AreAskersNamed names (take (i + 1) askers)) old new
  asker_added askers i asker old mid new inside is = both_added (λ names. AreAskersNamed names (take i askers))
      (λ names. All (IsAskNamed names) asker.asks.items) (λ names. AreAskersNamed names (take (i + 1) askers)) old mid new
      (askers_grow (take i askers)) (λ names held one. All-more (λ (a : Asker). All (IsAskNamed names) a.asks.items) askers i asker inside
      held (subst (λ (a : Asker). All (IsAskNamed names) a.asks.items) is one))

  -- what the candidates of one name more ask for, beside other asks
  pub listed_added : (asks : List Ask) (ones : List Listed) (i : ℕ) (one : Listed) (old mid new : Names) → i < length ones
      → one ≡ get_or ones i one
      → AreNamesAdded listed (λ names. All (IsAskNamed names) asks
      × All (λ (x : Listed). AreAskersNamed names x.candidates.items) (take i ones)) old mid
      → AreNamesAdded listed (λ names. AreAskersNamed names one.candidates.items) mid new
      → AreNamesAdded listed (λ names. All (IsAskNamed names) asks
      × All (λ (x : Listed). AreAskersNamed names x.candidates.items) (take (i + 1) ones)) old new
  listed_added asks ones i one old mid new inside is = both_added (λ names. All (IsAskNamed names) asks
      × All (λ (x : Listed). AreAskersNamed names x.candidates.items) (take i ones))
      (λ names. AreAskersNamed names one.candidates.items) (λ names. All (IsAskNamed names) asks
      × All (λ (x : Listed). AreAskersNamed names x.candidates.items) (take (i + 1) ones)) old mid new
      (λ xs ys held. (
        asks_grow asks xs ys held.0,
        All-weaker (λ (x : Listed). AreAskersNamed xs x.candidates.items)
            (λ (x : Listed). AreAskersNamed (xs ++ ys) x.candidates.items) (λ x. askers_grow x.candidates.items xs ys) (take i ones) held.1,
      ))
      (λ names held more. (
        held.0,
        All-more (λ (x : Listed). AreAskersNamed names x.candidates.items) ones i one inside held.1
            (subst (λ (x : Listed). AreAskersNamed names x.candidates.items) is more),
      ))
