-- Rule 7: `check_auth_subject_key_id`, AKI and SKI by the version and the position. Assumes nothing.
use Rattle.std.specs.Prelude.{Bool, true, false, not, ◌&&◌, ◌||◌, leb}
use Rattle.laws.specs.Lists.{pick}
use Rattle.laws.specs.Optional.{if_there, there_and, is_there}
use Rattle.model.specs.Model.{Extensions, no_extensions, some_extensions, Cert, Aki, Ski}
use Rattle.model.specs.Marks.{is_critical}

-- AKI and SKI, if present, are not critical
unfoldable pub ids_not_critical : Cert → Bool
ids_not_critical c = if_there (λ (a : Aki). not (is_critical a.mark)) c.aki && if_there (λ (s : Ski). not (is_critical s.mark)) c.ski

-- AKI with a key id, but for the root; SKI, but for the leaf
unfoldable pub has_key_ids : Bool → Bool → Cert → Bool
has_key_ids root leaf c = (root || there_and (λ (a : Aki). is_there a.key_id) c.aki) && (leaf || is_there c.ski)

-- whether there are extensions at all
unfoldable pub any_extensions : Extensions → Bool
any_extensions no_extensions = false
any_extensions some_extensions = true

-- no extensions, and none of the nine parts
unfoldable pub has_no_parts : Cert → Bool
has_no_parts c =
    not (any_extensions c.extensions)
    && not (is_there c.aki)
    && not (is_there c.ski)
    && not (is_there c.eku)
    && not (is_there c.bc)
    && not (is_there c.ku)
    && not (is_there c.san)
    && not (is_there c.nc)
    && not (is_there c.policies)
    && not (is_there c.aia)

-- not critical at any version; key ids from version 2 on, and below it no parts
unfoldable pub check_auth_subject_key_id : Bool → Bool → Cert → Bool
check_auth_subject_key_id root leaf c = ids_not_critical c && pick (leb 2 c.version) (has_key_ids root leaf c) (has_no_parts c)
