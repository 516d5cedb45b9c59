-- The nearest folder of a name, found by the last folder that is not after a path and the first one that begins as both do.
use Rattle.std.proofs.Common.{◌≡◌, ◌∙◌, ◌<◌, ◌≤◌, ℕ, List, [], Bool, true, false, Option, Some, None, ap}
use Rattle.std.proofs.Common.{append-nil, arith, inl, inr, length, nat_lt, refl, sym}
use Rattle.std.proofs.lemmas.Bool.Decides.{nat_tests}
use Rattle.std.specs.Option.{IsSome}
use Rattle.npm_packages.specs.Index.{IsFront, IsNearestOf, IsOver, Places, at_place}
use Rattle.npm_packages.specs.Private.Index.{AreByFolder, IsFirstFrom, IsLastTo, IsUpTo}
use Rattle.npm_packages.specs.Private.Search.{BeginsWith}
use Rattle.npm_packages.specs.declared.index.Hit.{Hit}
use Rattle.npm_packages.proofs.LastPlaces.{begins_between, longer, not_before_it, same_text, start_up_to, up_to_it, whole_or_less}
use Rattle.npm_packages.proofs.Starts.{begins_front, front_shared, within}

module _ (places : Places) (name path : List ℕ) (last : Hit) (by_folder : AreByFolder places)
    (is_last : IsLastTo places name path last)
  where
    last_is : last.folder.now ≡ is_last.folder
    last_is = rw is_last.there at (by_folder name is_last.folder)

    last_there : at_place places name last.folder.now ≡ Some last
    last_there = ap (λ t. at_place places name t) last_is ∙ is_last.there

    -- it begins with each folder of the name that the path begins with
    in_last : (folder : List ℕ) → IsSome (at_place places name folder) → BeginsWith path folder
        → BeginsWith last.folder.now folder
    in_last folder some begins = rw last_is (begins_between folder path is_last.folder begins
        (is_last.last folder some (start_up_to folder path begins)) is_last.up_to)

    pub nearest_last : IsFront path last.folder.now → IsNearestOf places name (IsFront path) (Some last)
    nearest_last front = record {
      hit = (last_there, front);
      nearest = λ folder some is.
          (last, refl, longer last.folder.now folder (in_last folder some (begins_front path folder is)));
    }

    module _ (beside : IsFront path last.folder.now → ⊥) where
      less_than_last : (folder : List ℕ) → IsFront path folder → BeginsWith last.folder.now folder
          → length folder < length last.folder.now
      less_than_last folder is begins = elim (whole_or_less last.folder.now folder begins) [
        | inl same ↦ absurd (beside (rw same at is))
        | inr less ↦ less
      ]

      less_than_path : (folder : List ℕ) → IsSome (at_place places name folder) → IsFront path folder
          → BeginsWith path folder → length folder < length path
      less_than_path folder some is begins = elim (whole_or_less path folder begins) [
        | inl same ↦
            let low = rw same at (is_last.last folder some (start_up_to folder path begins)) in
            let equal : is_last.folder ≡ path = same_text is_last.folder path low is_last.up_to in
            let here : last.folder.now ≡ folder = last_is ∙ equal ∙ sym same in
            absurd (beside (rw here is))
        | inr less ↦ less
      ]

      module _ (start : List ℕ) (of_path : BeginsWith path start) (of_last : BeginsWith last.folder.now start)
          (kept : (text : List ℕ) → BeginsWith path text → BeginsWith last.folder.now text
          → length text < length last.folder.now → length text < length path → BeginsWith start text)
        where
          -- what both begin with begins with each folder of the name at or above the path
          in_start : (folder : List ℕ) → IsSome (at_place places name folder) → IsFront path folder
              → BeginsWith start folder
          in_start folder some is =
              let begins = begins_front path folder is in
              let in_it = in_last folder some begins in
              kept folder begins in_it (less_than_last folder is in_it) (less_than_path folder some is begins)

          pub some_first : ((folder : List ℕ) → IsSome (at_place places name folder) → IsUpTo start folder → ⊥) → ⊥
          some_first none =
              none last.folder.now (rw last_there refl) (start_up_to start last.folder.now of_last)

          module _ (first : Hit) (is_first : IsFirstFrom places name start first) where
            first_is : first.folder.now ≡ is_first.folder
            first_is = rw is_first.there at (by_folder name is_first.folder)

            first_there : at_place places name first.folder.now ≡ Some first
            first_there = ap (λ t. at_place places name t) first_is ∙ is_first.there

            pub first_some : IsSome (at_place places name first.folder.now)
            first_some = rw first_there refl

            from_start : IsUpTo start first.folder.now
            from_start = rw first_is is_first.from

            no_later : (folder : List ℕ) → IsSome (at_place places name folder) → IsUpTo start folder
                → IsUpTo first.folder.now folder
            no_later folder some from = rw first_is (is_first.first folder some from)

            up_to_last : IsUpTo first.folder.now last.folder.now
            up_to_last = no_later last.folder.now (rw last_there refl) (start_up_to start last.folder.now of_last)

            pub up_to_path : IsUpTo first.folder.now path
            up_to_path = up_to_it first.folder.now last.folder.now path up_to_last (rw last_is is_last.up_to)

            first_begins : BeginsWith first.folder.now start
            first_begins = begins_between start last.folder.now first.folder.now of_last
                (not_before_it start first.folder.now from_start) up_to_last

            pub nearest_first : IsFront path first.folder.now → IsNearestOf places name (IsFront path) (Some first)
            nearest_first front = record {
              hit = (first_there, front);
              nearest = λ folder some is. (
                first,
                refl,
                omega (arith, longer start folder (in_start folder some is), longer first.folder.now start first_begins),
              );
            }

            module _ (apart : IsFront path first.folder.now → ⊥) where
              less_than_start : (folder : List ℕ) → IsSome (at_place places name folder) → IsFront path folder
                  → length folder < length start
              less_than_start folder some is = elim (whole_or_less start folder (in_start folder some is)) [
                | inl same ↦
                    let low = not_before_it start first.folder.now from_start in
                    let high = no_later folder some (start_up_to start folder ([], same ∙ sym (append-nil start))) in
                    let equal : first.folder.now ≡ start = same_text first.folder.now start low (rw same at high) in
                    let here : first.folder.now ≡ folder = equal ∙ sym same in
                    absurd (apart (rw here is))
                | inr less ↦ less
              ]

              over_first : (folder : List ℕ) → IsSome (at_place places name folder) → IsFront path folder
                  → IsOver first.folder.now folder
              over_first folder some is =
                  let less = less_than_start folder some is in (
                    front_shared path first.folder.now start folder of_path first_begins is less,
                    omega (arith, less, longer first.folder.now start first_begins),
                  )

              over_path : (folder : List ℕ) → IsSome (at_place places name folder) → IsOver first.folder.now folder
                  → IsFront path folder
              over_path folder some is = by_size (nat_lt (length folder) (length start)) refl where
                by_size : (b : Bool) → nat_lt (length folder) (length start) ≡ b → IsFront path folder
                by_size true small =
                    let less : length folder < length start = grind (arith, nat_tests) in
                    front_shared first.folder.now path start folder first_begins of_path is.0 less
                by_size false large =
                    let long : length start ≤ length folder = grind (arith, nat_tests) in
                    let begins = begins_front first.folder.now folder is.0 in
                    let from = start_up_to start folder (within first.folder.now start folder first_begins begins long) in
                    let low = not_before_it folder first.folder.now (start_up_to folder first.folder.now begins) in
                    let equal : first.folder.now ≡ folder =
                    same_text first.folder.now folder low (no_later folder some from) in
                    absurd (omega (arith, is.1, ap (λ t. length t) equal))

              pub nearest_over : (best : Option Hit) → IsNearestOf places name (IsOver first.folder.now) best
                  → IsNearestOf places name (IsFront path) best
              nearest_over None is =
                  record { hit = tt; nearest = λ folder some front. is.nearest folder some (over_first folder some front) }
              nearest_over (Some h) is = record {
                hit = (is.hit.0, over_path h.folder.now (rw is.hit.0 refl) is.hit.1);
                nearest = λ folder some front. is.nearest folder some (over_first folder some front);
              }
