-- Worked rows of the definitions: files.
use Rattle.std.proofs.Common.{◌≡◌, codes, false, refl, true}
use Rattle.npm_pick_reports.specs.PackumentFile.{is_package_name, path_of}

pub a_document_is_in_the_folder : path_of (codes "m") (codes "@s/a") (codes ".json") ≡ codes "m/@s/a.json"
a_document_is_in_the_folder = refl

pub a_name_has_a_scope : is_package_name (codes "@s/a") ≡ true
a_name_has_a_scope = refl

pub no_name_leads_out_of_the_folder : is_package_name (codes "../a") ≡ false
no_name_leads_out_of_the_folder = refl

pub no_scope_does : is_package_name (codes "@../a") ≡ false
no_scope_does = refl
