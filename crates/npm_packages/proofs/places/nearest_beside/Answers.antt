-- The first folder that begins as both do is at or above the path, or has above it what the path has.
use Rattle.std.proofs.Common.{◌≡◌, None, Some, sym}
use Rattle.npm_packages.specs.Index.{at_place}
use Rattle.npm_packages.proofs.Beside.{first_some, nearest_first, nearest_over, some_first, up_to_path}
use Rattle.npm_packages.proofs.places.nearest_beside.Goals as goal

pub returns-in_err-first : goal.returns-in_err-first
returns-in_err-first c =
    let common = rw (c.as_bytes.ensures.value, c.as_bytes-2.ensures.value) at c.shared-start.ensures.common in
    let kept = rw (c.as_bytes.ensures.value, c.as_bytes-2.ensures.value) at c.shared-start.ensures.kept in
    absurd (some_first c.args.places.now c.args.name.now c.args.path.now c.args.last c.requires.by_folder c.requires.last
    c.requires.beside c.shared-start.result.now common.0 common.1 kept (rw c.in_err-first.was at c.first_from.ensures))

pub returns-then-is_front : goal.returns-then-is_front
returns-then-is_front c =
    let common = rw (c.as_bytes.ensures.value, c.as_bytes-2.ensures.value) at c.shared-start.ensures.common in
    let kept = rw (c.as_bytes.ensures.value, c.as_bytes-2.ensures.value) at c.shared-start.ensures.kept in
    nearest_first c.args.places.now c.args.name.now c.args.path.now c.args.last c.requires.by_folder c.requires.last
    c.requires.beside c.shared-start.result.now common.0 common.1 kept c.in_ok-first.first c.in_ok-first.ensures
    (c.is_front.ensures.0 c.if-is_front.true)

pub returns-in-Some : goal.returns-in-Some
returns-in-Some c =
    let common = rw (c.as_bytes.ensures.value, c.as_bytes-2.ensures.value) at c.shared-start.ensures.common in
    let kept = rw (c.as_bytes.ensures.value, c.as_bytes-2.ensures.value) at c.shared-start.ensures.kept in
    let up = up_to_path c.args.places.now c.args.name.now c.args.path.now c.args.last c.requires.by_folder c.requires.last
    c.requires.beside c.shared-start.result.now common.0 common.1 kept c.in_ok-first.first c.in_ok-first.ensures in
    let some = first_some c.args.places.now c.args.name.now c.args.path.now c.args.last c.requires.by_folder
    c.requires.last c.requires.beside c.shared-start.result.now common.0 common.1 kept c.in_ok-first.first
    c.in_ok-first.ensures in
    let there : at_place c.args.above.now c.args.name.now c.in_ok-first.first.folder.now ≡ Some c.in-Some.hit.now =
    rw c.as_bytes-3.ensures.value at (sym c.in-Some.ensures.value) in
    nearest_over c.args.places.now c.args.name.now c.args.path.now c.args.last c.requires.by_folder c.requires.last
    c.requires.beside c.shared-start.result.now common.0 common.1 kept c.in_ok-first.first c.in_ok-first.ensures
    (λ front. cc (c.is_front.ensures.1 front, c.if-is_front.false)) (Some c.in-Some.hit.now)
    (rw there at (c.requires.above c.in_ok-first.first.folder.now up some))

pub returns-in-None : goal.returns-in-None
returns-in-None c =
    let common = rw (c.as_bytes.ensures.value, c.as_bytes-2.ensures.value) at c.shared-start.ensures.common in
    let kept = rw (c.as_bytes.ensures.value, c.as_bytes-2.ensures.value) at c.shared-start.ensures.kept in
    let up = up_to_path c.args.places.now c.args.name.now c.args.path.now c.args.last c.requires.by_folder c.requires.last
    c.requires.beside c.shared-start.result.now common.0 common.1 kept c.in_ok-first.first c.in_ok-first.ensures in
    let some = first_some c.args.places.now c.args.name.now c.args.path.now c.args.last c.requires.by_folder
    c.requires.last c.requires.beside c.shared-start.result.now common.0 common.1 kept c.in_ok-first.first
    c.in_ok-first.ensures in
    let there : at_place c.args.above.now c.args.name.now c.in_ok-first.first.folder.now ≡ None =
    rw c.as_bytes-3.ensures.value at (sym c.in-None.ensures.value) in
    nearest_over c.args.places.now c.args.name.now c.args.path.now c.args.last c.requires.by_folder c.requires.last
    c.requires.beside c.shared-start.result.now common.0 common.1 kept c.in_ok-first.first c.in_ok-first.ensures
    (λ front. cc (c.is_front.ensures.1 front, c.if-is_front.false)) None
    (rw there at (c.requires.above c.in_ok-first.first.folder.now up some))
