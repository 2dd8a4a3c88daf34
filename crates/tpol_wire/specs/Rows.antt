-- The table of commands.
use Rattle.std.specs.Prelude.{Bool, true, false, List, [], ◌∷◌}
use Rattle.tpol_fields.specs.declared.handle_type.HandleType.TheVariants.{PolicySession, Object, Index, Entity, Authority, Pcr, Null, Parent}
use Rattle.tpol_base.specs.declared.command_code.CommandCode.{CommandCode}
use Rattle.tpol_base.specs.declared.command_code.CommandCode.TheVariants as codes
use Rattle.tpol_base.specs.Constants.{alg_null, alg_sha256, se_policy, st_auth_secret, st_auth_signed}
use Rattle.tpol_base.specs.ResponseCode.{rc_hash, rc_value}
use Rattle.tpol_fields.specs.FieldKinds.{handle, byte, short, long, read_size, hash, fixed, fixed_byte, sized_digest, empty, timeout, one_digest, selection, signature, context}
use Rattle.tpol_fields.specs.Kinds.{Kind, Signed, Truth, Operation, Sized, Optional, Named, Ticketed, TimedTicket, Digests}

-- operandB, offset and operation
abbrev pub comparison : List Kind
comparison = Sized 64 ∷ short ∷ Operation ∷ []

-- policyRef, the Name of the key or the entity, and the ticket
abbrev pub ticketed : List Kind
ticketed = Sized 64 ∷ Named ∷ Ticketed ∷ []

-- ---- the rows

-- the handles of a command, whether the first of them is authorized, its parameters, and the fields of a reply to it
pub record Row : Type 0 where
  pub handles : List Kind
  pub is_authorized : Bool
  pub parameters : List Kind
  pub reply : List Kind

abbrev pub plain : List Kind → List Kind → List Kind → Row
plain handles parameters reply = record { handles = handles; is_authorized = false; parameters = parameters; reply = reply }

abbrev pub authorized : List Kind → List Kind → List Kind → Row
authorized handles parameters reply = record { handles = handles; is_authorized = true; parameters = parameters; reply = reply }

-- TPM 2.0 Part 3, the tables "Command" and "Response"
abbrev pub row : CommandCode → Row
row codes.StartAuthSession = plain (handle Null ∷ handle Null ∷ []) (sized_digest ∷ empty ∷ fixed_byte se_policy rc_value ∷ fixed alg_null rc_value ∷ fixed alg_sha256 rc_hash ∷ []) (handle PolicySession ∷ sized_digest ∷ [])
row codes.ContextSave = plain (handle PolicySession ∷ []) [] (context ∷ [])
row codes.ContextLoad = plain [] (context ∷ []) (handle PolicySession ∷ [])
row codes.FlushContext = plain [] (handle PolicySession ∷ []) []
row codes.PolicyRestart = plain (handle PolicySession ∷ []) [] []
row codes.PolicyGetDigest = plain (handle PolicySession ∷ []) [] (sized_digest ∷ [])
row codes.PcrExtend = authorized (handle Pcr ∷ []) (one_digest ∷ []) []
row codes.PcrRead = plain [] (selection ∷ []) (long ∷ selection ∷ Digests 0 8 ∷ [])
row codes.VerifySignature = plain (handle Object ∷ []) (sized_digest ∷ signature ∷ []) (Ticketed ∷ [])
row codes.Unseal = authorized (handle Object ∷ []) [] (Sized 1024 ∷ [])
row codes.Hmac = authorized (handle Object ∷ []) (Sized 1024 ∷ hash ∷ []) (sized_digest ∷ [])
row codes.NvRead = authorized (handle Authority ∷ handle Index ∷ []) (read_size ∷ short ∷ []) (Sized 1024 ∷ [])
row codes.NvWrite = authorized (handle Authority ∷ handle Index ∷ []) (Sized 1024 ∷ short ∷ []) []
row codes.NvIncrement = authorized (handle Authority ∷ handle Index ∷ []) [] []
row codes.Duplicate = authorized (handle Object ∷ handle Parent ∷ []) (empty ∷ fixed alg_null rc_value ∷ []) (empty ∷ Sized 1024 ∷ empty ∷ [])
row codes.PolicyNv = authorized (handle Authority ∷ handle Index ∷ handle PolicySession ∷ []) comparison []
row codes.PolicyCpHash = plain (handle PolicySession ∷ []) (sized_digest ∷ []) []
row codes.PolicyNameHash = plain (handle PolicySession ∷ []) (sized_digest ∷ []) []
row codes.PolicyAuthValue = plain (handle PolicySession ∷ []) [] []
row codes.PolicyPassword = plain (handle PolicySession ∷ []) [] []
row codes.PolicyPhysicalPresence = plain (handle PolicySession ∷ []) [] []
row codes.PolicyCommandCode = plain (handle PolicySession ∷ []) (long ∷ []) []
row codes.PolicyCounterTimer = plain (handle PolicySession ∷ []) comparison []
row codes.PolicyLocality = plain (handle PolicySession ∷ []) (byte ∷ []) []
row codes.PolicyPcr = plain (handle PolicySession ∷ []) (Optional ∷ selection ∷ []) []
row codes.PolicyDuplicationSelect = plain (handle PolicySession ∷ []) (Named ∷ Named ∷ Truth ∷ []) []
row codes.PolicyNvWritten = plain (handle PolicySession ∷ []) (Truth ∷ []) []
row codes.PolicySigned = plain (handle Object ∷ handle PolicySession ∷ []) (Sized 32 ∷ Optional ∷ Sized 64 ∷ Signed ∷ signature ∷ []) (TimedTicket st_auth_signed ∷ [])
row codes.PolicySecret = authorized (handle Entity ∷ handle PolicySession ∷ []) (Sized 32 ∷ Optional ∷ Sized 64 ∷ Signed ∷ []) (TimedTicket st_auth_secret ∷ [])
row codes.PolicyTicket = plain (handle PolicySession ∷ []) (timeout ∷ Optional ∷ ticketed) []
row codes.PolicyAuthorize = plain (handle PolicySession ∷ []) (sized_digest ∷ ticketed) []
row codes.PolicyOr = plain (handle PolicySession ∷ []) (Digests 2 8 ∷ []) []
row codes.PolicyAuthorizeNv = authorized (handle Authority ∷ handle Index ∷ handle PolicySession ∷ []) [] []
