-- A lock file, a package and a dependency as values.
use Rattle.serde_json.specs.Data.{Data, object}
use Rattle.serde_json.specs.View.{members_view, view}
use Rattle.npm_packages.specs.Asked.{AskedValue}
use Rattle.npm_packages.specs.Packages as Packages
use Rattle.npm_packages.specs.declared.asked.Asked.{Asked}
use Rattle.npm_packages.specs.declared.place.Lock.{Lock}
use Rattle.npm_packages.specs.declared.place.Package.{Package}

-- its member `packages`
abbrev pub packages_data : Lock → Data
packages_data lock = object (members_view lock.members.now.entries)

-- its folder, and the member of `packages`
abbrev pub package_value : Package → Packages.Package
package_value found = record { folder = found.folder.now; member = view found.member.now }

-- a dependency: its spec and its flags
abbrev pub asked_value : Asked → AskedValue
asked_value asked = record {
  spec = asked.spec.now;
  is_needed = asked.is_needed;
  is_peer = asked.is_peer;
  is_dev = asked.is_dev;
  is_overridden = asked.is_overridden;
}
