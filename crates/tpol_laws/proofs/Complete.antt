-- A path that nothing stops is complete: each Name on it is in the directory, and each key that signs is granted.
use Rattle.std.proofs.Common.{◌≡◌, ℕ, ◌+◌, ◌&&◌, not, true, List, [], ◌∷◌, refl, ap, sym, subst, ◌∙◌}
use Rattle.std.specs.Prelude.{ℤ, Option, Some, None, is_some}
use Rattle.std.specs.List.{list_all}
use Rattle.std.proofs.lemmas.Option.{none-some}
use Rattle.tpol_base.specs.declared.command_code.CommandCode.{CommandCode}
use Rattle.tpol_base.specs.declared.command_code.CommandCode.TheVariants as codes
use Rattle.tpm_rules.specs.PolicyAuthorizeNv.{policy_authorize_nv_rule}
use Rattle.tpm_rules.specs.PolicyNv.{policy_nv_rule}
use Rattle.tpol_base.specs.declared.digest.Digest32.{Digest32}
use Rattle.tpol_base.specs.declared.name.Name.{Name}
use Rattle.tpol_choose.specs.Blocks.{block_of, block_on, first_block, moves_block, whole_block}
use Rattle.tpol_choose.specs.Entities.{EntityAt, entity_of_name as entity_at_name}
use Rattle.tpol_choose.specs.Facts.{fresh_session, session_after}
use Rattle.tpol_choose.specs.Moves.{approve_block, assertion_block, index_block, move_block, secret_block, signed_block, signing_block}
use Rattle.tpol_driver.specs.declared.plan.Plan.{Plan}
use Rattle.tpol_driver.specs.Plans.{is_complete, is_granted_key, is_known_assertion, is_known_move}
use Rattle.tpol_goal.specs.Entities.{entity_of_name, index_in_sight, index_of_name, object_in_sight, object_of_name}
use Rattle.tpol_goal.specs.Grants.{granted}
use Rattle.tpol_name.specs.declared.entries.DirEntry.{DirEntry}
use Rattle.tpol_name.specs.declared.entries.IndexEntry.{IndexEntry}
use Rattle.tpol_name.specs.declared.entries.ObjectEntry.{ObjectEntry}
use Rattle.tpol_name.specs.declared.setup.Setup.{Setup}
use Rattle.tpol_name.specs.Directories.{directory_of}
use Rattle.tpol_name.specs.Setups.{IsSetup}
use Rattle.tpol_tree.specs.declared.closed.Assertion.{Assertion}
use Rattle.tpol_tree.specs.declared.closed.Assertion.TheVariants as assertions
use Rattle.tpol_tree.specs.declared.path.Move.{Move}
use Rattle.tpol_tree.specs.declared.path.Move.TheVariants.{Assert, Or, Approve, ApproveNv}
use Rattle.tpol_tree.specs.declared.path.Path.{Path}
use Rattle.tpm_bindings.specs.State.{SessionState}
use Rattle.tpol_goal.specs.declared.goal.Goal.{Goal}
use Rattle.tpol_goal.specs.declared.grants.Grants.{Grants}
use Rattle.tpm_session.specs.Slots.{bits_of, free_count}
use Rattle.tpm_world.specs.World.{WorldState, sight_of}
use Rattle.tpm_engine.specs.declared.event.Event.{Event}
use Rattle.tpm_engine.specs.Sights.{sight_after}
use Rattle.tpm_engine.specs.Views.{view_of}
use Rattle.tpm_engine.proofs.Stopping.{map-none, or_else-none, unless-none}
use Rattle.tpol_laws.proofs.Own.{IsOf}
use Rattle.tpol_laws.proofs.Passing.{client_on}
use Rattle.tpol_laws.proofs.Seen.{see-entity, see-index, see-object}
use Rattle.tpol_laws.proofs.Step.{is-of}

-- ---- what is not stopped

module _ (setup : Setup) (is : IsSetup setup) (world : WorldState) (of : IsOf setup world) (free : ℕ) (grants : Grants) (goal : Goal) (locality : ℕ) where
  secret-known : (session : SessionState) (name : Name) (cp_hash : Option Digest32) (expiration : ℤ) (o : Option EntityAt) → entity_at_name (sight_of world free) name ≡ o
      → secret_block (client_on world free grants goal locality) session cp_hash expiration o ≡ None → is_some (entity_of_name (directory_of setup) name) ≡ true
  secret-known session name cp_hash expiration None e h = absurd (none-some _ (sym h))
  secret-known session name cp_hash expiration (Some found) e h = ap is_some (see-entity setup is world of free name found e).listed

  key-granted : (session : SessionState) (cp_hash : Option Digest32) (expiration : ℤ) (object : ObjectEntry) (o : Option (List ℕ)) → signing_block (client_on world free grants goal locality) session cp_hash expiration object o ≡ None → is_some o ≡ true
  key-granted session cp_hash expiration object None h = absurd (none-some _ (sym h))
  key-granted session cp_hash expiration object (Some key) h = refl

  signed-known : (session : SessionState) (name : Name) (cp_hash : Option Digest32) (expiration : ℤ) (o : Option ObjectEntry) → object_in_sight (sight_of world free) name ≡ o
      → signed_block (client_on world free grants goal locality) session cp_hash expiration o ≡ None → is_granted_key grants (object_of_name (directory_of setup) name) ≡ true
  signed-known session name cp_hash expiration None e h = absurd (none-some _ (sym h))
  signed-known session name cp_hash expiration (Some object) e h =
      ap (is_granted_key grants) (see-object setup is world of free name object e).listed ∙ key-granted session cp_hash expiration object (granted grants.keys object.handle) h

  approve-known : (session : SessionState) (name : Name) (policy_ref : List ℕ) (approved signature : Digest32) (o : Option ObjectEntry) → object_in_sight (sight_of world free) name ≡ o
      → approve_block session policy_ref approved signature o ≡ None → is_some (object_of_name (directory_of setup) name) ≡ true
  approve-known session name policy_ref approved signature None e h = absurd (none-some _ (sym h))
  approve-known session name policy_ref approved signature (Some object) e h = ap is_some (see-object setup is world of free name object e).listed

  index-known : (name : Name) (code : CommandCode) (rule : IndexEntry → Option ℕ) (o : Option IndexEntry) → index_in_sight (sight_of world free) name ≡ o
      → index_block (client_on world free grants goal locality) code rule o ≡ None → is_some (index_of_name (directory_of setup) name) ≡ true
  index-known name code rule None e h = absurd (none-some _ (sym h))
  index-known name code rule (Some entry) e h = ap is_some (see-index setup is world of free name entry e).listed

  assertion-known : (session : SessionState) (assertion : Assertion) → assertion_block (client_on world free grants goal locality) session assertion ≡ None → is_known_assertion (directory_of setup) grants assertion ≡ true
  assertion-known session (assertions.Secret entity policy_ref cp_hash expiration) h = secret-known session entity cp_hash expiration (entity_at_name (sight_of world free) entity) refl h
  assertion-known session (assertions.Signed key policy_ref cp_hash expiration) h = signed-known session key cp_hash expiration (object_in_sight (sight_of world free) key) refl h
  assertion-known session (assertions.Nv index operand offset operation) h =
      index-known index codes.PolicyNv (λ entry. policy_nv_rule entry operand offset operation) (index_in_sight (sight_of world free) index) refl h
  assertion-known session (assertions.Pcr mask digest values) h = refl
  assertion-known session (assertions.CounterTimer operand offset operation) h = refl
  assertion-known session (assertions.CommandCode code) h = refl
  assertion-known session (assertions.Locality localities) h = refl
  assertion-known session (assertions.CpHash digest) h = refl
  assertion-known session (assertions.NameHash digest) h = refl
  assertion-known session (assertions.NvWritten written) h = refl
  assertion-known session assertions.AuthValue h = refl
  assertion-known session assertions.Password h = refl
  assertion-known session assertions.PhysicalPresence h = refl
  assertion-known session (assertions.Duplication object parent include) h = refl

  move-known : (session : SessionState) (act : Move) → move_block (client_on world free grants goal locality) session act ≡ None → is_known_move (directory_of setup) grants act ≡ true
  move-known session (Assert assertion) h = assertion-known session assertion h
  move-known session (Or digests) h = refl
  move-known session (Approve key policy_ref approved signature) h = approve-known session key policy_ref approved signature (object_in_sight (sight_of world free) key) refl h
  move-known session (ApproveNv index approved) h = index-known index codes.PolicyAuthorizeNv (policy_authorize_nv_rule session) (index_in_sight (sight_of world free) index) refl h

  moves-known : (number : ℕ) (session : SessionState) (moves : List Move) → moves_block (client_on world free grants goal locality) number session moves ≡ None → list_all (is_known_move (directory_of setup) grants) moves ≡ true
  moves-known number session [] h = refl
  moves-known number session (act ∷ moves) h =
      let parts = or_else-none (block_of number (move_block (client_on world free grants goal locality) session act)) (moves_block (client_on world free grants goal locality) (number + 1) (session_after (sight_of world free) session act) moves) h in
      let known = move-known session act (map-none _ (move_block (client_on world free grants goal locality) session act) parts.0) in
      rw known (moves-known (number + 1) (session_after (sight_of world free) session act) moves parts.1)

  path-known : (path : Path) → block_on (client_on world free grants goal locality) path ≡ None → (not path.outside && list_all (is_known_move (directory_of setup) grants) path.moves) ≡ true
  path-known path h =
      let parts = or_else-none (whole_block (sight_of world free) path.outside) (moves_block (client_on world free grants goal locality) 1 (fresh_session (sight_of world free)) path.moves) h in
      let listed : not path.outside ≡ true = unless-none (not path.outside) _ (map-none _ _ (or_else-none _ _ parts.0).0) in
      rw listed (moves-known 1 (fresh_session (sight_of world free)) path.moves parts.1)

pub open-complete : (setup : Setup) (past : List Event) (plan : Plan) (locality : ℕ) → IsSetup setup → plan.directory ≡ directory_of setup
    → first_block plan.path (sight_after setup past) plan.grants plan.goal locality ≡ None → is_complete plan ≡ true
unfolding first_block sight_after
open-complete setup past plan locality is directory opens =
    subst (λ (d : List DirEntry). (not plan.path.outside && list_all (is_known_move d plan.grants) plan.path.moves) ≡ true) (sym directory)
    (path-known setup is (view_of setup past).world (is-of setup past) (free_count (view_of setup past).sessions (bits_of (view_of setup past).saved)) plan.grants plan.goal locality plan.path opens)
