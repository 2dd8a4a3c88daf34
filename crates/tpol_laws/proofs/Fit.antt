-- The commands of a run's moves are within the bounds of the wire.
use Rattle.std.proofs.Common.{◌≡◌, ◌≤◌, ◌<◌, inl, inr, ℕ, ◌+◌, ◌^◌, ◌||◌, ◌==◌, Bool, true, false, List, [], length, nat_eq, refl, ap, arith}
use Rattle.std.specs.Prelude.{ℤ, Option, Some, None, All, find, option_map, unwrap_or, if◌then◌else◌, FitsSigned}
use Rattle.std.specs.Int.{w32}
use Rattle.std.proofs.lemmas.Bool.Decides.{nat_tests}
use Rattle.std.proofs.lemmas.Bool.{false≢true}
use Rattle.std.proofs.lemmas.List.Elements.{recursion_from_All}
use Rattle.tpol_base.specs.declared.compare.Compare.{Compare}
use Rattle.tpol_base.specs.declared.digest.Digest32.{Digest32}
use Rattle.tpol_base.specs.declared.name.Name.{Name}
use Rattle.tpol_base.specs.declared.name.Name.TheVariants as names
use Rattle.tpol_base.specs.Handle.{is_index, is_object, is_policy_session, rh_endorsement, rh_lockout, rh_owner}
use Rattle.tpol_goal.specs.declared.grants.Grants.{Grants}
use Rattle.tpol_goal.specs.Entities.{is_hierarchy}
use Rattle.tpol_goal.specs.Grants.{IsGrants, authority, secret_of}
use Rattle.tpol_name.specs.Setups.{IsAuthValue}
use Rattle.tpol_driver.specs.Commands.{password_area, start_command}
use Rattle.tpol_tree.specs.Bounds.{NameHasBounds}
use Rattle.tpol_wire.specs.declared.auth_area.AuthArea.{AuthArea}
use Rattle.tpol_wire.specs.declared.command.Command.TheVariants as commands
use Rattle.tpol_fields.specs.declared.ticket.Ticket.{Ticket}
use Rattle.tpol_wire.specs.Authorizations.{AreaFits}
use Rattle.tpol_wire.specs.Commands.{FitsCommand, ValuesFit}
use Rattle.tpol_fields.specs.Kinds.{Fits, NameFits, TicketFits}
use Rattle.tpm_session.specs.Slots.{IsSlotHandle}
use Rattle.tpol_laws.proofs.Finds.{find-each}
use Rattle.tpol_laws.proofs.Named.{FoundEntity, FoundIndex, FoundObject}
use Rattle.tpol_name.specs.declared.setup.Setup.{Setup}

-- a handle that passes the test of its place on the wire
pub record IsHandle (test : ℕ → Bool) (handle : ℕ) : Type 0 where
  pub low : handle < 2 ^ 32
  pub kind : test handle ≡ true

-- the tests of what authorizes the reading of an index, and of the entity of PolicySecret
abbrev pub is_authority : ℕ → Bool
is_authority handle = handle == rh_owner || is_index handle

abbrev pub is_entity : ℕ → Bool
is_entity handle = handle == rh_owner || handle == rh_lockout || handle == rh_endorsement || is_object handle || is_index handle

pub session-handle : (handle : ℕ) → IsSlotHandle handle → IsHandle is_policy_session handle
session-handle handle slot =
    let first : 0x03000000 ≤ handle = slot.0 in
    let last : handle < 0x03000000 + 64 = slot.1 in
    record { low = omega (arith, last); kind = grind (arith, nat_tests, first, last) }

pub index-kind : (handle : ℕ) → 0x01000000 ≤ handle → handle ≤ 0x01ffffff → is_index handle ≡ true
index-kind handle low high = grind (arith, nat_tests, low, high)

pub object-kind : (handle : ℕ) → 0x80000000 ≤ handle → handle ≤ 0x80ffffff → is_object handle ≡ true
object-kind handle low high = grind (arith, nat_tests, low, high)

pub index-handle : (setup : Setup) (name : Name) (handle : ℕ) → FoundIndex setup name handle → IsHandle is_index handle
index-handle setup name handle found = record { low = omega (arith, found.high); kind = index-kind handle found.low found.high }

pub object-handle : (setup : Setup) (name : Name) (handle : ℕ) → FoundObject setup name handle → IsHandle is_object handle
object-handle setup name handle found = record { low = omega (arith, found.high); kind = object-kind handle found.low found.high }

-- what authorizes the reading of an index
pub authority-handle : (setup : Setup) (name : Name) (handle attributes : ℕ) (grants : Grants) → FoundIndex setup name handle → IsHandle is_authority (authority grants handle attributes)
authority-handle setup name handle attributes grants found = at _
  where
    own : (nat_eq handle rh_owner || is_index handle) ≡ true
    own = grind (arith, nat_tests, index-kind handle found.low found.high)

    at : (b : Bool) → IsHandle is_authority (if b then handle else rh_owner)
    at true = record { low = omega (arith, found.high); kind = own }
    at false = record { low = omega arith; kind = refl }

-- the tests of an entity's handle, one after the other
entity-test : (owner lockout endorsement object index : Bool) → (owner || endorsement || lockout) ≡ true → (owner || lockout || endorsement || object || index) ≡ true
entity-test true lockout endorsement object index h = refl
entity-test false true endorsement object index h = refl
entity-test false false true object index h = refl
entity-test false false false object index h = absurd (false≢true h)

object-test : (owner lockout endorsement object index : Bool) → object ≡ true → (owner || lockout || endorsement || object || index) ≡ true
object-test true lockout endorsement object index h = refl
object-test false true endorsement object index h = refl
object-test false false true object index h = refl
object-test false false false object index h = ap (λ b. b || index) h

index-test : (owner lockout endorsement object index : Bool) → index ≡ true → (owner || lockout || endorsement || object || index) ≡ true
index-test true lockout endorsement object index h = refl
index-test false true endorsement object index h = refl
index-test false false true object index h = refl
index-test false false false true index h = refl
index-test false false false false index h = h

hierarchy-low : (handle : ℕ) → is_hierarchy handle ≡ true → handle < 2 ^ 32
hierarchy-low handle h = grind (arith, nat_tests, h)

pub entity-handle : (setup : Setup) (name : Name) (handle : ℕ) → FoundEntity setup name handle → IsHandle is_entity handle
entity-handle setup name handle (inl hierarchy) = record {
  low = hierarchy-low handle hierarchy.is;
  kind = entity-test (nat_eq handle rh_owner) (nat_eq handle rh_lockout) (nat_eq handle rh_endorsement) (is_object handle) (is_index handle) hierarchy.is;
}
entity-handle setup name handle (inr (inl object)) = record {
  low = omega (arith, object.high);
  kind = object-test (nat_eq handle rh_owner) (nat_eq handle rh_lockout) (nat_eq handle rh_endorsement) (is_object handle) (is_index handle) (object-kind handle object.low object.high);
}
entity-handle setup name handle (inr (inr index)) = record {
  low = omega (arith, index.high);
  kind = index-test (nat_eq handle rh_owner) (nat_eq handle rh_lockout) (nat_eq handle rh_endorsement) (is_object handle) (is_index handle) (index-kind handle index.low index.high);
}

-- ---- authorizations

pub value-short : (values : List (ℕ × List ℕ)) (handle : ℕ) → All (λ value. IsAuthValue value.1) values → length (secret_of values handle) ≤ 32
value-short values handle each = at (find (λ (value : ℕ × List ℕ). nat_eq value.0 handle) values) refl
  where
    at : (o : Option (ℕ × List ℕ)) → find (λ (value : ℕ × List ℕ). nat_eq value.0 handle) values ≡ o → length (unwrap_or (option_map (λ (value : ℕ × List ℕ). value.1) o) []) ≤ 32
    at None e = omega arith
    at (Some value) e = (find-each (λ (value : ℕ × List ℕ). IsAuthValue value.1) (λ (value : ℕ × List ℕ). nat_eq value.0 handle) values value (recursion_from_All (λ (value : ℕ × List ℕ). IsAuthValue value.1) values each) e).size

pub area-fits : (grants : Grants) (handle : ℕ) → IsGrants grants → AreaFits (password_area grants handle)
area-fits grants handle is = record {
  nonce = omega arith;
  hmac = let short = value-short grants.secrets handle is.secrets in omega (arith, short);
  session = refl;
  attributes = omega arith;
  password = λ same. refl;
}

name-fits : (name : Name) → NameHasBounds name → NameFits name
name-fits names.Empty h = tt
name-fits (names.Handle handle) h = h
name-fits (names.Hash digest) h = tt

nonce-short : (nonce : Digest32) → length nonce.bytes ≤ 32
nonce-short nonce = omega (arith, nonce.whole)

-- ---- one of a kind

pub fits-start : (seed : Digest32) → FitsCommand (start_command seed)
unfolding ValuesFit Fits
fits-start seed = record { handles = ((omega arith, refl), ((omega arith, refl), tt)); area = tt; parameters = (tt, (tt, (tt, (tt, (tt, tt))))) }

module _ (session : ℕ) (own : IsHandle is_policy_session session) where
  pub fits-flush : FitsCommand (commands.FlushContext session)
  unfolding ValuesFit Fits
  fits-flush = record { handles = tt; area = tt; parameters = ((own.low, own.kind), tt) }

  pub fits-auth_value : FitsCommand (commands.PolicyAuthValue session)
  unfolding ValuesFit Fits
  fits-auth_value = record { handles = ((own.low, own.kind), tt); area = tt; parameters = tt }

  pub fits-password : FitsCommand (commands.PolicyPassword session)
  unfolding ValuesFit Fits
  fits-password = record { handles = ((own.low, own.kind), tt); area = tt; parameters = tt }

  pub fits-presence : FitsCommand (commands.PolicyPhysicalPresence session)
  unfolding ValuesFit Fits
  fits-presence = record { handles = ((own.low, own.kind), tt); area = tt; parameters = tt }

  pub fits-pcr : (digest : Digest32) (mask : ℕ) → mask < 2 ^ 24 → FitsCommand (commands.PolicyPcr session (Some digest) mask)
  unfolding ValuesFit Fits
  fits-pcr digest mask few = record { handles = ((own.low, own.kind), tt); area = tt; parameters = (tt, (few, tt)) }

  pub fits-code : (code : ℕ) → code < 2 ^ 32 → FitsCommand (commands.PolicyCommandCode session code)
  unfolding ValuesFit Fits
  fits-code code few = record { handles = ((own.low, own.kind), tt); area = tt; parameters = ((few, refl), tt) }

  pub fits-locality : (localities : ℕ) → localities ≤ 31 → FitsCommand (commands.PolicyLocality session localities)
  unfolding ValuesFit Fits
  fits-locality localities few = record { handles = ((own.low, own.kind), tt); area = tt; parameters = ((omega (arith, few), refl), tt) }

  pub fits-cp_hash : (digest : Digest32) → FitsCommand (commands.PolicyCpHash session digest)
  unfolding ValuesFit Fits
  fits-cp_hash digest = record { handles = ((own.low, own.kind), tt); area = tt; parameters = (tt, tt) }

  pub fits-name_hash : (digest : Digest32) → FitsCommand (commands.PolicyNameHash session digest)
  unfolding ValuesFit Fits
  fits-name_hash digest = record { handles = ((own.low, own.kind), tt); area = tt; parameters = (tt, tt) }

  pub fits-nv_written : (written : Bool) → FitsCommand (commands.PolicyNvWritten session written)
  unfolding ValuesFit Fits
  fits-nv_written written = record { handles = ((own.low, own.kind), tt); area = tt; parameters = (tt, tt) }

  pub fits-counter_timer : (operand : List ℕ) (offset : ℕ) (operation : Compare) → length operand ≤ 64 → offset < 2 ^ 16 → FitsCommand (commands.PolicyCounterTimer session operand offset operation)
  unfolding ValuesFit Fits
  fits-counter_timer operand offset operation short few = record { handles = ((own.low, own.kind), tt); area = tt; parameters = (short, ((few, refl), (tt, tt))) }

  pub fits-duplication : (object parent : Name) (include : Bool) → NameHasBounds object → NameHasBounds parent → FitsCommand (commands.PolicyDuplicationSelect session object parent include)
  unfolding ValuesFit Fits
  fits-duplication object parent include first second =
      record { handles = ((own.low, own.kind), tt); area = tt; parameters = (name-fits object first, (name-fits parent second, (tt, tt))) }

  pub fits-or : (digests : List Digest32) → 2 ≤ length digests → length digests ≤ 8 → FitsCommand (commands.PolicyOr session digests)
  unfolding ValuesFit Fits
  fits-or digests least most = record { handles = ((own.low, own.kind), tt); area = tt; parameters = ((least, most), tt) }

  pub fits-authorize : (approved : Digest32) (policy_ref : List ℕ) (key : Name) (ticket : Ticket) → length policy_ref ≤ 64 → NameHasBounds key → TicketFits ticket
      → FitsCommand (commands.PolicyAuthorize session approved policy_ref key ticket)
  unfolding ValuesFit Fits
  fits-authorize approved policy_ref key ticket short name fits =
      record { handles = ((own.low, own.kind), tt); area = tt; parameters = (tt, (short, (name-fits key name, (fits, tt)))) }

  pub fits-ticket : (deadline : ℕ) (cp_hash : Option Digest32) (policy_ref : List ℕ) (key : Name) (ticket : Ticket) → deadline < 2 ^ 64 → length policy_ref ≤ 64 → NameHasBounds key → TicketFits ticket
      → FitsCommand (commands.PolicyTicket session deadline cp_hash policy_ref key ticket)
  unfolding ValuesFit Fits
  fits-ticket deadline cp_hash policy_ref key ticket few short name fits =
      record { handles = ((own.low, own.kind), tt); area = tt; parameters = ((few, refl), (tt, (short, (name-fits key name, (fits, tt))))) }

  pub fits-signed : (key : ℕ) (nonce : Digest32) (cp_hash : Option Digest32) (policy_ref : List ℕ) (expiration : ℤ) (signature : Digest32) → IsHandle is_object key → length policy_ref ≤ 64 → FitsSigned w32 expiration
      → FitsCommand (commands.PolicySigned key session nonce.bytes cp_hash policy_ref expiration signature)
  unfolding ValuesFit Fits
  fits-signed key nonce cp_hash policy_ref expiration signature handle short signed =
      record { handles = ((handle.low, handle.kind), ((own.low, own.kind), tt)); area = tt; parameters = (nonce-short nonce, (tt, (short, (signed, (tt, tt))))) }

  pub fits-secret : (entity : ℕ) (auth : AuthArea) (nonce : Digest32) (cp_hash : Option Digest32) (policy_ref : List ℕ) (expiration : ℤ) → IsHandle is_entity entity → AreaFits auth → length policy_ref ≤ 64 → FitsSigned w32 expiration
      → FitsCommand (commands.PolicySecret entity session auth nonce.bytes cp_hash policy_ref expiration)
  unfolding ValuesFit Fits
  fits-secret entity auth nonce cp_hash policy_ref expiration handle area short signed =
      record { handles = ((handle.low, handle.kind), ((own.low, own.kind), tt)); area = area; parameters = (nonce-short nonce, (tt, (short, (signed, tt)))) }

  pub fits-nv : (authority index : ℕ) (auth : AuthArea) (operand : List ℕ) (offset : ℕ) (operation : Compare) → IsHandle is_authority authority → IsHandle is_index index → AreaFits auth → length operand ≤ 64 → offset < 2 ^ 16
      → FitsCommand (commands.PolicyNv authority index session auth operand offset operation)
  unfolding ValuesFit Fits
  fits-nv authority index auth operand offset operation first second area short few =
      record { handles = ((first.low, first.kind), ((second.low, second.kind), ((own.low, own.kind), tt))); area = area; parameters = (short, ((few, refl), (tt, tt))) }

  pub fits-authorize_nv : (authority index : ℕ) (auth : AuthArea) → IsHandle is_authority authority → IsHandle is_index index → AreaFits auth → FitsCommand (commands.PolicyAuthorizeNv authority index session auth)
  unfolding ValuesFit Fits
  fits-authorize_nv authority index auth first second area =
      record { handles = ((first.low, first.kind), ((second.low, second.kind), ((own.low, own.kind), tt))); area = area; parameters = tt }

pub fits-verify : (key : ℕ) (digest signature : Digest32) → IsHandle is_object key → FitsCommand (commands.VerifySignature key digest signature)
unfolding ValuesFit Fits
fits-verify key digest signature handle = record { handles = ((handle.low, handle.kind), tt); area = tt; parameters = (tt, (tt, tt)) }
