-- Packages that ask, which are looked up once for all of their dependencies.
use Rattle.std.specs.Prelude.{◌≡◌, ℕ, List, option_map}
use Rattle.serde_json.specs.Data.{Data}
use Rattle.serde_json.specs.View.{view}
use Rattle.npm_lock.specs.Mismatches.{member_at}
use Rattle.npm_lock_reports.specs.Needed.{is_marked_at}
use Rattle.npm_lock_reports.specs.declared.needed.Asker.{Asker}
use Rattle.npm_lock_reports.specs.declared.omissions.Omissions.{Omissions}

-- the package in this folder
pub record IsAsker (omissions : Omissions) (lock : Data) (folder : List ℕ) (asker : Asker) : Type 0 where
  pub in_folder : asker.folder.now ≡ folder
  pub found : option_map (λ member. view member.now) asker.member ≡ member_at lock folder
  pub marked : asker.is_marked ≡ is_marked_at omissions lock folder
