-- The command of a move: PolicyTicket with the first ticket that stands for it, or its own where none does.
use Rattle.std.proofs.Common.{◌≡◌, ◌<◌, ◌≤◌, ◌^◌, ℕ, ◌&&◌, All, Bool, true, false, not, List, [], ◌∷◌, length, refl, ap, sym, subst, arith}
use Rattle.std.specs.Prelude.{Option, Some, None}
use Rattle.std.specs.Option.{option_map_or}
use Rattle.std.specs.Str.{bytes_eq}
use Rattle.std.proofs.lemmas.Bool.{false≢true}
use Rattle.std.proofs.lemmas.List.Elements.{recursion_from_All, All-nil}
use Rattle.std.proofs.lemmas.Slice.Eq.{bytes_eq-Decides}
use Rattle.tpol_base.proofs.Digests.{same_digest as digest-same}
use Rattle.tpol_base.specs.declared.digest.Digest32.{Digest32}
use Rattle.tpol_base.specs.declared.name.Name.{Name}
use Rattle.tpol_base.specs.Handle.{rh_owner}
use Rattle.tpol_base.specs.Name.{is_same_name}
use Rattle.tpol_digest.specs.Laws.{MoveHasBounds}
use Rattle.tpol_digest.specs.Update.{update_of}
use Rattle.tpol_driver.specs.declared.plan.Plan.{Plan}
use Rattle.tpol_driver.specs.declared.session.Session.{Session}
use Rattle.tpol_driver.specs.declared.tickets.HeldTicket.{HeldTicket}
use Rattle.tpol_driver.specs.Commands.{command_of_move}
use Rattle.tpol_driver.specs.Driving.{is_verification}
use Rattle.tpol_driver.specs.Tickets.{command_on_path, is_for, is_same_cp_hash, stands_for, tag_of_ticket, ticket_command, ticket_for}
use Rattle.tpol_fields.specs.declared.ticket.Ticket.{Ticket}
use Rattle.tpol_fields.specs.Kinds.{TicketFits}
use Rattle.tpol_tree.specs.declared.closed.Assertion.TheVariants as assertions
use Rattle.tpol_tree.specs.declared.path.Move.{Move}
use Rattle.tpol_tree.specs.declared.path.Move.TheVariants.{Assert, Approve}
use Rattle.tpol_tree.specs.Bounds.{NameHasBounds}
use Rattle.tpm_rules.specs.PolicyTicket.{policy_ticket_fact}
use Rattle.tpm_session.specs.Slots.{IsSlotHandle}
use Rattle.tpm_world.specs.World.{WorldState}
use Rattle.tpol_laws.specs.HeldTickets.{TicketHasBounds, IsUsable}
use Rattle.tpol_laws.proofs.Finds.{both, find-each, find-passes, names-same}
use Rattle.tpol_laws.proofs.Fit.{fits-ticket, session-handle}
use Rattle.tpol_laws.proofs.Own.{IsOwn}
use Rattle.tpm_engine.specs.declared.event.Event.{Event}
use Rattle.tpol_name.specs.declared.setup.Setup.{Setup}

-- ---- the command

pub plain-command : (plan : Plan) (session : Session) (ticket : Option Ticket) (act : Move) → ticket_for plan.tickets act ≡ None
    → command_on_path plan session ticket act ≡ command_of_move plan.directory plan.grants session ticket act
plain-command plan session ticket act none =
    ap (λ (o : Option HeldTicket). option_map_or (ticket_command session) o (command_of_move plan.directory plan.grants session ticket act)) none

pub held-command : (plan : Plan) (session : Session) (ticket : Option Ticket) (act : Move) (held : HeldTicket) → ticket_for plan.tickets act ≡ Some held
    → command_on_path plan session ticket act ≡ ticket_command session held
held-command plan session ticket act held found =
    ap (λ (o : Option HeldTicket). option_map_or (ticket_command session) o (command_of_move plan.directory plan.grants session ticket act)) found

-- ---- where there is none

pub none-without : (plan : Plan) → plan.tickets ≡ [] → (act : Move) → ticket_for plan.tickets act ≡ None
none-without plan none act = ap (λ (tickets : List HeldTicket). ticket_for tickets act) none

pub usable-without : (setup : Setup) (past : List Event) (tickets : List HeldTicket) → tickets ≡ [] → All (IsUsable setup past) tickets
usable-without setup past tickets none = subst (All (IsUsable setup past)) (sym none) (All-nil (IsUsable setup past))

pub none-for-approval : (tickets : List HeldTicket) (key : Name) (policy_ref : List ℕ) (approved signature : Digest32) → ticket_for tickets (Approve key policy_ref approved signature) ≡ None
none-for-approval [] key policy_ref approved signature = refl
none-for-approval (held ∷ rest) key policy_ref approved signature = none-for-approval rest key policy_ref approved signature

-- ---- where there is one

pub found-stands : (tickets : List HeldTicket) (act : Move) (held : HeldTicket) → ticket_for tickets act ≡ Some held → stands_for held act ≡ true
found-stands tickets act held found = find-passes (λ (h : HeldTicket). stands_for h act) tickets held found

pub found-each : (P : HeldTicket → Type 0) (tickets : List HeldTicket) (act : Move) (held : HeldTicket) → All P tickets → ticket_for tickets act ≡ Some held → P held
found-each P tickets act held all found = find-each P (λ (h : HeldTicket). stands_for h act) tickets held (recursion_from_All P tickets all) found

-- it stands for no approval
pub stands-other : (held : HeldTicket) (ticket : Option Ticket) (act : Move) → stands_for held act ≡ true → is_verification ticket act ≡ false
stands-other held (Some ticket) act stands = refl
stands-other held None (Assert assertion) stands = refl
stands-other held None act stands = absurd (false≢true stands)

same-cp_hash : (a b : Option Digest32) → is_same_cp_hash a b ≡ true → a ≡ b
same-cp_hash None None same = refl
same-cp_hash (Some a) (Some b) same = ap Some (digest-same a b ((bytes_eq-Decides a.bytes b.bytes).0 same))
same-cp_hash None (Some b) same = absurd (false≢true same)
same-cp_hash (Some a) None same = absurd (false≢true same)

-- it is for this Name, policyRef and cpHashA
pub record IsTicketFor (held : HeldTicket) (signed : Bool) (name : Name) (policy_ref : List ℕ) (cp_hash : Option Digest32) : Type 0 where
  pub kind : held.signed ≡ signed
  pub key : held.key ≡ name
  pub reference : held.policy_ref ≡ policy_ref
  pub limit : held.cp_hash ≡ cp_hash

ticket-of : (held : HeldTicket) (signed : Bool) (name : Name) (policy_ref : List ℕ) (cp_hash : Option Digest32) → held.signed ≡ signed → is_for held name policy_ref cp_hash ≡ true
    → IsTicketFor held signed name policy_ref cp_hash
ticket-of held signed name policy_ref cp_hash kind is =
    let first = both (is_same_name held.key name) (bytes_eq held.policy_ref policy_ref && is_same_cp_hash held.cp_hash cp_hash) is in
    let second = both (bytes_eq held.policy_ref policy_ref) (is_same_cp_hash held.cp_hash cp_hash) first.1 in
    record {
      kind = kind;
      key = names-same held.key name first.0;
      reference = (bytes_eq-Decides held.policy_ref policy_ref).0 second.0;
      limit = same-cp_hash held.cp_hash cp_hash second.1;
    }

not-true : (b : Bool) → not b ≡ true → b ≡ false
not-true true h = absurd (false≢true h)
not-true false h = refl

pub secret-ticket : (held : HeldTicket) (name : Name) (policy_ref : List ℕ) (cp_hash : Option Digest32) → (not held.signed && is_for held name policy_ref cp_hash) ≡ true → IsTicketFor held false name policy_ref cp_hash
secret-ticket held name policy_ref cp_hash stands =
    let parts = both (not held.signed) (is_for held name policy_ref cp_hash) stands in
    ticket-of held false name policy_ref cp_hash (not-true held.signed parts.0) parts.1

pub signed-ticket : (held : HeldTicket) (name : Name) (policy_ref : List ℕ) (cp_hash : Option Digest32) → (held.signed && is_for held name policy_ref cp_hash) ≡ true → IsTicketFor held true name policy_ref cp_hash
signed-ticket held name policy_ref cp_hash stands =
    let parts = both held.signed (is_for held name policy_ref cp_hash) stands in
    ticket-of held true name policy_ref cp_hash parts.0 parts.1

-- ---- PolicyTicket by it

tag-small : (signed : Bool) → tag_of_ticket signed < 2 ^ 16
tag-small true = omega arith
tag-small false = omega arith

ticket-fits : (held : HeldTicket) → TicketFits (record { tag = tag_of_ticket held.signed; hierarchy = rh_owner; digest = held.digest.bytes })
ticket-fits held = record { tag = tag-small held.signed; hierarchy = omega arith; digest = omega (arith, held.digest.whole) }

-- its fact hashes what the move hashes
pub own-ticket : (world : WorldState) (own : ℕ) (nonce : Digest32) → IsSlotHandle own → (held : HeldTicket) → TicketHasBounds held → (act : Move) → stands_for held act ≡ true → MoveHasBounds act
    → IsOwn world own act (ticket_command (record { handle = own; nonce = nonce }) held)
own-ticket world own nonce slot held small (Assert (assertions.Secret name policy_ref cp_hash expiration)) stands bounds =
    let is = secret-ticket held name policy_ref cp_hash stands in
    record {
      fits = fits-ticket own (session-handle own slot) held.deadline held.cp_hash held.policy_ref held.key _ small
          (subst (λ (bytes : List ℕ). length bytes ≤ 64) (sym is.reference) bounds.1) (subst NameHasBounds (sym is.key) bounds.0) (ticket-fits held);
      area = tt;
      policy = refl;
      shows = λ state rule asks. record {
        fact = _;
        is = refl;
        same = λ now same i. update_of (policy_ticket_fact now.number (tag_of_ticket (is.kind i)) held.deadline (is.key i) (is.reference i) held.cp_hash).act;
      };
    }
own-ticket world own nonce slot held small (Assert (assertions.Signed name policy_ref cp_hash expiration)) stands bounds =
    let is = signed-ticket held name policy_ref cp_hash stands in
    record {
      fits = fits-ticket own (session-handle own slot) held.deadline held.cp_hash held.policy_ref held.key _ small
          (subst (λ (bytes : List ℕ). length bytes ≤ 64) (sym is.reference) bounds.1) (subst NameHasBounds (sym is.key) bounds.0) (ticket-fits held);
      area = tt;
      policy = refl;
      shows = λ state rule asks. record {
        fact = _;
        is = refl;
        same = λ now same i. update_of (policy_ticket_fact now.number (tag_of_ticket (is.kind i)) held.deadline (is.key i) (is.reference i) held.cp_hash).act;
      };
    }
own-ticket world own nonce slot held small act stands bounds = absurd (false≢true stands)
