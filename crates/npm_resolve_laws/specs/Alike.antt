-- For which options and documents candidates and a pick are compared.
use Rattle.std.specs.Prelude.{◌≡◌, None, Some, false, option_map}
use Rattle.std.specs.List.{AllByRecursion}
use Rattle.serde_json.specs.Data.{Data}
use Rattle.npm_pick.specs.Packument.{Release, manifest_of, releases_in, versions_of}
use Rattle.npm_pick.specs.declared.options.Options as Picking
use Rattle.npm_resolve.specs.declared.candidates.options.Options.{Options}

-- The options of a pick and those of candidates ask for the same: one default tag, one time and one version of Node. A pick can have
-- more, which is left out: a version of npm, a range to avoid, and staged versions. Candidates can have the lowest version first, and do not.
pub record AreAlike (options : Options) (picking : Picking.Options) : Type 0 where
  pub tag : picking.default_tag.now ≡ options.default_tag.now
  pub before : picking.before ≡ options.before
  pub node : picking.node ≡ option_map (λ node. node.now) options.node
  pub npm : picking.npm ≡ None
  pub avoid : picking.avoid ≡ None
  pub lenient : picking.avoid_strict ≡ false
  pub staged : picking.include_staged ≡ false
  pub greatest : options.is_lowest ≡ false

-- Each member of `versions` is the one that its key finds: no key is there twice, as in each document that was read.
abbrev pub HasKeysOnce : (packument : Data) → Type 0
HasKeysOnce packument = AllByRecursion (λ (release : Release). manifest_of packument release.key ≡ Some release.manifest)
    (releases_in (versions_of packument))
