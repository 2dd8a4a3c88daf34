-- The command `gen`: a policy of ORs that is made by two numbers, and a run of it.
use Rattle.std.specs.Prelude.{ℕ, zero, suc, ◌+◌, ◌-◌, ◌/◌, ◌%◌, ◌==◌, Bool, true, false, List, [], ◌∷◌, ◌++◌, codes, drop, length, refl, replicate, take, None, Ok, if◌then◌else◌}
use Rattle.std.specs.Int.{to_be_bytes, w32}
use Rattle.tpol_base.specs.declared.digest.Digest32.{Digest32}
use Rattle.tpol_base.specs.Digest.{zero_digest}
use Rattle.tpol_digest.specs.Digest.{policy_digest}
use Rattle.tpol_digest.specs.Paths.{paths_of}
use Rattle.tpol_goal.specs.declared.goal.Goal.TheVariants.{Unseal}
use Rattle.tpol_lines.specs.Generated.{command_count_line, generated_line, path_count_line}
use Rattle.tpol_lines.specs.Lines.{line_of}
use Rattle.tpol_name.specs.declared.areas.Scheme.TheVariants.{Sealed}
use Rattle.tpol_name.specs.declared.entries.ObjectEntry.{ObjectEntry}
use Rattle.tpol_name.specs.declared.setup.Setup.{Setup}
use Rattle.tpol_name.specs.Directories.{directory_of}
use Rattle.tpol_steps.specs.declared.answer.Answer.{Answer}
use Rattle.tpol_steps.specs.declared.answer.Verdict.TheVariants.{Done}
use Rattle.tpol_perform.specs.declared.new_run.NewRun.{NewRun}
use Rattle.tpol_prepare.specs.declared.manner.Manner.TheVariants.{Run}
use Rattle.tpol_prepare.specs.declared.manner.Way.TheVariants.{Sighted}
use Rattle.tpol_prepare.specs.declared.scenario.Scenario.{Scenario}
use Rattle.tpol_steps.specs.Filled.{filled_step}
use Rattle.tpol_generate.specs.FirstRun.{performed_run}
use Rattle.tpol_steps.specs.Limits.{limit_step}
use Rattle.tpol_steps.specs.Lines.{digest_line}
use Rattle.tpol_perform.specs.Performance.{PerformanceState, start_of}
use Rattle.tpol_steps.specs.Steps.{Step, ◌>>=◌}
use Rattle.tpol_tree.specs.declared.closed.Closed.{Closed}
use Rattle.tpol_tree.specs.declared.policy.Branches.{Branches}
use Rattle.tpol_tree.specs.declared.policy.Branches.TheVariants.{More' as MoreBranches', End as EndBranches}
use Rattle.tpol_tree.specs.declared.policy.Element.{Element}
use Rattle.tpol_tree.specs.declared.policy.Element.TheVariants.{AuthValue, Locality, Or, Pcr}
use Rattle.tpol_tree.specs.declared.policy.Elements.{Elements}
use Rattle.tpol_tree.specs.declared.policy.Elements.TheVariants.{More', End}
use Rattle.tpol_tree.specs.declared.policy.Policy.{Policy}
use Rattle.tpol_tree.specs.declared.wishes.PcrWish.TheVariants.{Values}
use Rattle.tpol_tree.specs.Erased.{nowhere}

-- ---- the policy

-- an element and those behind it
abbrev pub before : Element → Elements → Elements
before element rest = More' nowhere element nowhere rest

-- the branch `a` asks for locality 1, and the branch `b` for a PCR of 32 zero bytes
abbrev pub branch_a : Elements
branch_a = before (Locality 2) End

abbrev pub zero_pcr : ℕ → Element
zero_pcr pcr = Pcr (Values ((pcr, zero_digest) ∷ []))

abbrev pub branch_b : ℕ → Elements
branch_b pcr = before (zero_pcr pcr) End

-- two branches without descriptions
abbrev pub two_branches : List ℕ → Elements → List ℕ → Elements → Branches
two_branches name elements next others =
    MoreBranches' nowhere name [] elements nowhere (MoreBranches' nowhere next [] others nowhere EndBranches)

-- the OR of a PCR: `a` stands first where the bit is clear
abbrev pub generated_or : Bool → ℕ → Element
generated_or swapped pcr =
    Or (if swapped then two_branches (codes "b") (branch_b pcr) (codes "a") branch_a else two_branches (codes "a") branch_a (codes "b") (branch_b pcr))

-- so many ORs from a PCR on, whose branches stand in an order by the bits, and PolicyAuthValue behind them
unfoldable pub generated_ors : ℕ → ℕ → ℕ → Elements
generated_ors zero pcr bits = before AuthValue End
generated_ors (suc n) pcr bits = before (generated_or (bits % 2 == 1) pcr) (generated_ors n (pcr + 1) (bits / 2))

abbrev pub generated_policy : ℕ → ℕ → Policy
generated_policy ors order = record { description = []; elements = generated_ors ors 0 order; approvals = [] }

-- ---- the machine, and the client

abbrev pub generated_handle : ℕ
generated_handle = 0x80000000

-- a sealed object with this authPolicy, that a password authorizes too
abbrev pub generated_object : Digest32 → ObjectEntry
generated_object digest = record {
  path = codes "gen";
  handle = generated_handle;
  public = record { attributes = 0x40; auth_policy = digest.bytes; scheme = Sealed; unique = [] };
  auth = 1 ∷ [];
  secret = codes "gen";
}

-- 24 PCRs of 32 zero bytes
unfoldable pub zero_pcrs : List Digest32
zero_pcrs = replicate 24 zero_digest

-- 28 zero bytes and the number
unfoldable pub generated_seed : ℕ → Digest32
generated_seed order = record { bytes = replicate 28 0 ++ to_be_bytes w32 order; whole = refl }

unfoldable pub generated_setup : ℕ → Digest32 → Setup
generated_setup order digest = record {
  seed = generated_seed order;
  owner = [];
  endorsement = [];
  lockout = [];
  pcrs = zero_pcrs;
  pcr_counter = 0;
  objects = generated_object digest ∷ [];
  indices = [];
  time = 0;
  reset_count = 0;
  restart_count = 0;
  safe = true;
  presence = false;
}

unfoldable pub generated_scenario : Setup → Closed → Scenario
generated_scenario setup closed = record {
  manner = Run Sighted;
  seed = setup.seed;
  directory = directory_of setup;
  entities = [];
  begun = record { name = codes "gen"; closed = closed } ∷ [];
  approvals = [];
  clients = [];
}

-- client 1 holds the object's value
abbrev pub generated_run : NewRun
generated_run = record {
  number = 1;
  client = 1;
  locality = 0;
  goal = Unseal generated_handle;
  grants = record { secrets = (generated_handle, 1 ∷ []) ∷ []; keys = [] };
}

-- ---- what is printed

-- the run of the policy on that machine, by that client, to its end
unfoldable pub generated_performance : ℕ → Closed → PerformanceState
generated_performance order closed =
    let setup = generated_setup order (policy_digest closed) in
    let scenario = generated_scenario setup closed in
    performed_run scenario (codes "gen") generated_run (start_of setup)

-- the last two: the line of the goal's command and that of the run's end
abbrev pub last_two : List (List ℕ) → List (List ℕ)
last_two lines = drop (length lines - 2) lines

-- what is printed of the policy: by which numbers it was made, how many paths it has, and its digest
abbrev pub generated_head : ℕ → ℕ → Closed → List (List ℕ)
generated_head ors order closed =
    line_of (generated_line ors order)
    ∷ line_of (path_count_line (length (paths_of closed [])))
    ∷ line_of (digest_line (policy_digest closed))
    ∷ []

-- and of the run: its first line, how many commands were executed, and its last two lines
abbrev pub generated_run_lines : PerformanceState → List (List ℕ)
generated_run_lines performance =
    take 1 performance.lines ++ line_of (command_count_line (length performance.past)) ∷ last_two performance.lines

abbrev pub generated_lines : ℕ → ℕ → Closed → PerformanceState → List (List ℕ)
generated_lines ors order closed performance = generated_head ors order closed ++ generated_run_lines performance

unfoldable pub generated_answer : ℕ → ℕ → Closed → Answer
generated_answer ors order closed = record {
  lines = generated_lines ors order closed (generated_performance order closed);
  verdict = Done;
}

-- the policy is filled, its paths are within the limits, and its run is told
unfoldable pub generate_step : ℕ → ℕ → Step Answer
generate_step ors order = do
  closed ← filled_step None (generated_policy ors order) None
  within ← limit_step None closed []
  Ok (generated_answer ors order closed)
