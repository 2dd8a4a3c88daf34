use Rattle.std.proofs.Common.{refl}
use Rattle.tpol_elements.specs.Publics.{object_public}
use Rattle.tpol_elements.proofs.publics.object_public.Goals as goal

pub returns : goal.returns
unfolding object_public
returns c =
    rw (c.in_ok-check_object.ensures, c.in_ok-key_type.ensures, c.in_ok-name_hash.ensures, c.in_ok-attributes.ensures, c.in_ok-auth_policy.ensures, c.in_ok-hmac.ensures, c.in_ok-unique.ensures, c.in_ok-note_unknown.ensures) refl
