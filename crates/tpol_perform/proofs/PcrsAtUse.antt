-- Where a policy session opened an entity by a written path, the PCRs have the values that the path asks for.
use Rattle.std.proofs.Common.{◌≡◌, ◌∙◌, ap, refl, sym, subst, ℕ, zero, suc, ◌-◌, Bool, true, false, List, [], ◌∷◌, ◌++◌, drop, length, map, slice_get, take, inl, inr, Some, arith}
use Rattle.std.specs.List.{AllByRecursion}
use Rattle.std.specs.Str.{bytes_eq}
use Rattle.std.proofs.lemmas.Bool.Decides.{not_from_Decides}
use Rattle.std.proofs.lemmas.List.{length-set}
use Rattle.std.proofs.lemmas.List.Elements.{All-from_recursion}
use Rattle.std.proofs.lemmas.Option.{none-some, same_Some}
use Rattle.std.proofs.lemmas.Slice.Eq.{bytes_eq-Decides}
use Rattle.tpm_engine.specs.declared.event.Event.{Event}
use Rattle.tpm_engine.specs.Deeds.{Deed, Resets, Extends, deed_of}
use Rattle.tpm_engine.specs.Uses.{AreOfPcrs, IsOfPcrs}
use Rattle.tpm_engine.specs.Views.{pcrs_after, pcrs_of}
use Rattle.tpm_pcr.specs.Bank.{Bank}
use Rattle.tpm_pcr.specs.Pcrs.{extended_value, selected, selection_digest, value_of}
use Rattle.tpol_base.specs.Pcr.{pcr_selection}
use Rattle.tpol_base.specs.declared.digest.Digest32.{Digest32}
use Rattle.tpol_base.proofs.Digests.{same_digest}
use Rattle.tpol_digest.specs.Paths.{paths_of}
use Rattle.tpol_tree.specs.Facts.{moves_of as moves_of_facts}
use Rattle.tpol_digest.specs.Update.{Update, joined, update_of}
use Rattle.tpol_hash.specs.Sha256.{sha256_digest}
use Rattle.tpol_name.specs.declared.setup.Setup.{Setup}
use Rattle.tpol_perform.specs.Explained.{HasValuesOf, IsAtPcrs, IsSameOrClash}
use Rattle.tpol_perform.proofs.Masks.{mask_same, select_same}
use Rattle.tpol_perform.proofs.PathPcrs.{HasDigests, HasMoveDigest}
use Rattle.tpol_trace.specs.declared.answer.Opening.{Opening}
use Rattle.tpol_trace.specs.declared.answer.Opening.TheVariants.{Branch, Clash, ZeroInput}
use Rattle.tpol_trace.specs.Matching.{MatchesBy}
use Rattle.tpol_trace.specs.Openings.{IsOpening}
use Rattle.tpol_trace.specs.Same.{AreSame}
use Rattle.tpol_tree.specs.declared.closed.Assertion.TheVariants as assertions
use Rattle.tpol_tree.specs.declared.closed.Closed.{Closed}
use Rattle.tpol_tree.specs.declared.facts.Fact.{Fact}
use Rattle.tpol_tree.specs.declared.path.ApprovedDoc.{ApprovedDoc}
use Rattle.tpol_tree.specs.declared.path.Move.{Move}
use Rattle.tpol_tree.specs.declared.path.Move.TheVariants.{Assert, Or, Approve, ApproveNv}
use Rattle.tpol_tree.specs.declared.path.Path.{Path}

-- ---- the PCRs are 24

deed-length : (deed : Deed) (pcrs : Bank) → length pcrs.values ≡ 24 → length (pcrs_after deed pcrs).values ≡ 24
deed-length (Extends pcr digest) pcrs h = length-set pcrs.values pcr (extended_value (value_of pcrs.values pcr) digest) ∙ h
deed-length Resets pcrs h = refl
deed-length _ pcrs h = h

pub pcrs-length : (setup : Setup) (past : List Event) → length setup.pcrs ≡ 24 → length (pcrs_of setup past).values ≡ 24
unfolding pcrs_of
pcrs-length setup [] h = h
pcrs-length setup (event ∷ past) h = deed-length (deed_of event) (pcrs_of setup past) (pcrs-length setup past h)

-- ---- one move

-- two strings of one digest
same_or_clash : (a b : List ℕ) → sha256_digest a ≡ sha256_digest b → IsSameOrClash a b
same_or_clash a b e = at (bytes_eq a b) refl
  where
    at : (t : Bool) → bytes_eq a b ≡ t → IsSameOrClash a b
    at true is = inl ((bytes_eq-Decides a b).0 is)
    at false is = inr (not_from_Decides (bytes_eq a b) (bytes_eq-Decides a b) is, e)

module _ (pcrs : Bank) (whole : length pcrs.values ≡ 24) where
  -- a selection and a digest that hash the same
  pcr_values : (mask found : ℕ) (digest given : Digest32) (values : List Digest32) → pcr_selection mask ++ digest.bytes ≡ pcr_selection found ++ given.bytes
      → given ≡ selection_digest pcrs.values found → digest ≡ sha256_digest (joined values) → IsSameOrClash (joined values) (joined (selected pcrs.values mask))
  unfolding selection_digest
  pcr_values mask found digest given values hashed of_pcrs of_values =
      let masks = mask_same mask found (ap (λ (l : List ℕ). take 3 (drop 7 l)) hashed) in
      let digests : digest ≡ given = same_digest digest given (ap (λ (l : List ℕ). drop 10 l) hashed) in
      let selections : selected pcrs.values mask ≡ selected pcrs.values found =
      ap (map (λ (p : ℕ × Digest32). p.1)) (select_same Digest32 mask found 0 pcrs.values (omega (arith, whole)) masks) in
      same_or_clash (joined values) (joined (selected pcrs.values mask))
      (sym of_values ∙ (digests ∙ (of_pcrs ∙ ap (λ (l : List Digest32). sha256_digest (joined l)) (sym selections))))

  pcr_move : (mask : ℕ) (digest : Digest32) (values : List Digest32) (fact : Move) → update_of (Assert (assertions.Pcr mask digest values)) ≡ update_of fact
      → IsOfPcrs pcrs fact → digest ≡ sha256_digest (joined values) → IsSameOrClash (joined values) (joined (selected pcrs.values mask))
  pcr_move mask digest values (Assert (assertions.Pcr found given written)) e of_pcrs of_values =
      pcr_values mask found digest given values (ap (λ (u : Update). u.rest) e) of_pcrs of_values
  pcr_move mask digest values (Assert (assertions.Nv index operand offset operation)) e of_pcrs of_values = let h : 0x17f ≡ 0x149 = ap (λ (u : Update). u.code) e in absurd (omega (arith, h))
  pcr_move mask digest values (Assert (assertions.CounterTimer operand offset operation)) e of_pcrs of_values = let h : 0x17f ≡ 0x16d = ap (λ (u : Update). u.code) e in absurd (omega (arith, h))
  pcr_move mask digest values (Assert (assertions.Secret entity policy_ref cp_hash expiration)) e of_pcrs of_values = let h : 0x17f ≡ 0x151 = ap (λ (u : Update). u.code) e in absurd (omega (arith, h))
  pcr_move mask digest values (Assert (assertions.Signed key policy_ref cp_hash expiration)) e of_pcrs of_values = let h : 0x17f ≡ 0x160 = ap (λ (u : Update). u.code) e in absurd (omega (arith, h))
  pcr_move mask digest values (Assert (assertions.CommandCode code)) e of_pcrs of_values = let h : 0x17f ≡ 0x16c = ap (λ (u : Update). u.code) e in absurd (omega (arith, h))
  pcr_move mask digest values (Assert (assertions.Locality locality)) e of_pcrs of_values = let h : 0x17f ≡ 0x16f = ap (λ (u : Update). u.code) e in absurd (omega (arith, h))
  pcr_move mask digest values (Assert (assertions.CpHash hash)) e of_pcrs of_values = let h : 0x17f ≡ 0x16e = ap (λ (u : Update). u.code) e in absurd (omega (arith, h))
  pcr_move mask digest values (Assert (assertions.NameHash hash)) e of_pcrs of_values = let h : 0x17f ≡ 0x170 = ap (λ (u : Update). u.code) e in absurd (omega (arith, h))
  pcr_move mask digest values (Assert (assertions.NvWritten written)) e of_pcrs of_values = let h : 0x17f ≡ 0x18f = ap (λ (u : Update). u.code) e in absurd (omega (arith, h))
  pcr_move mask digest values (Assert assertions.AuthValue) e of_pcrs of_values = let h : 0x17f ≡ 0x16b = ap (λ (u : Update). u.code) e in absurd (omega (arith, h))
  pcr_move mask digest values (Assert assertions.Password) e of_pcrs of_values = let h : 0x17f ≡ 0x16b = ap (λ (u : Update). u.code) e in absurd (omega (arith, h))
  pcr_move mask digest values (Assert assertions.PhysicalPresence) e of_pcrs of_values = let h : 0x17f ≡ 0x187 = ap (λ (u : Update). u.code) e in absurd (omega (arith, h))
  pcr_move mask digest values (Assert (assertions.Duplication object parent include)) e of_pcrs of_values = let h : 0x17f ≡ 0x188 = ap (λ (u : Update). u.code) e in absurd (omega (arith, h))
  pcr_move mask digest values (Or digests) e of_pcrs of_values = let h : 0x17f ≡ 0x171 = ap (λ (u : Update). u.code) e in absurd (omega (arith, h))
  pcr_move mask digest values (Approve key policy_ref approved signature) e of_pcrs of_values = let h : 0x17f ≡ 0x16a = ap (λ (u : Update). u.code) e in absurd (omega (arith, h))
  pcr_move mask digest values (ApproveNv index approved) e of_pcrs of_values = let h : 0x17f ≡ 0x192 = ap (λ (u : Update). u.code) e in absurd (omega (arith, h))

  one_move : (act fact : Move) → update_of act ≡ update_of fact → IsOfPcrs pcrs fact → HasMoveDigest act → HasValuesOf pcrs act
  one_move (Assert (assertions.Pcr mask digest values)) fact e of_pcrs has = pcr_move mask digest values fact e of_pcrs has
  one_move _ fact e of_pcrs has = tt

  -- ---- all moves

  moves_at : (moves facts : List Move) → AreSame moves facts → AllByRecursion (IsOfPcrs pcrs) facts → AllByRecursion HasMoveDigest moves → AllByRecursion (HasValuesOf pcrs) moves
  moves_at [] facts same of_pcrs has = tt
  moves_at (act ∷ moves) [] same of_pcrs has = absurd same
  moves_at (act ∷ moves) (fact ∷ facts) same of_pcrs has = (
    one_move act fact same.0.hashed of_pcrs.0 has.0,
    moves_at moves facts same.1 of_pcrs.1 has.1,
  )

  of_facts : (facts : List Fact) → AreOfPcrs pcrs facts → AllByRecursion (IsOfPcrs pcrs) (moves_of_facts facts)
  of_facts [] h = tt
  of_facts (fact ∷ rest) h = (h.0, of_facts rest h.1)

  behind : (before rest : List Move) → AllByRecursion (IsOfPcrs pcrs) (before ++ rest) → AllByRecursion (IsOfPcrs pcrs) rest
  behind [] rest h = h
  behind (first ∷ before) rest h = behind before rest h.1

  path_at : (approvals : List ApprovedDoc) (path : Path) (outside : Bool) (facts : List Move) → MatchesBy outside approvals path facts → AllByRecursion (IsOfPcrs pcrs) facts → HasDigests path → AllByRecursion (HasValuesOf pcrs) path.moves
  path_at approvals path false facts matching of_pcrs has = moves_at path.moves facts matching of_pcrs has
  path_at approvals path true facts matching of_pcrs has =
      let last = behind matching.before (matching.approving ∷ matching.after) (subst (AllByRecursion (IsOfPcrs pcrs)) matching.split of_pcrs) in
      let moves = subst (AllByRecursion HasMoveDigest) matching.moves has in
      subst (AllByRecursion (HasValuesOf pcrs)) (sym matching.moves)
      (one_move matching.approval matching.approving matching.hashed last.0 moves.0, moves_at matching.rest matching.after matching.same last.1 moves.1)

  -- ---- the path that is printed

  listed_has : (paths : List Path) (i : ℕ) (path : Path) → AllByRecursion HasDigests paths → slice_get paths i ≡ Some path → HasDigests path
  listed_has [] i path h e = absurd (none-some path e)
  listed_has (first ∷ rest) zero path h e = subst HasDigests (same_Some _ _ e) h.0
  listed_has (first ∷ rest) (suc i) path h e = listed_has rest i path h.1 e

  pub pcrs-at-use : (policy : Closed) (approvals : List ApprovedDoc) (facts : List Fact) (opening : Opening) → AreOfPcrs pcrs facts → AllByRecursion HasDigests (paths_of policy approvals)
      → IsOpening policy approvals facts opening → IsAtPcrs pcrs (paths_of policy approvals) opening
  pcrs-at-use policy approvals facts (Branch position events) of_pcrs digests means =
      λ path listed.
      let same : means.0.path ≡ path = same_Some _ _ (sym means.0.listed ∙ listed) in
      All-from_recursion (HasValuesOf pcrs) path.moves
      (subst (λ (p : Path). AllByRecursion (HasValuesOf pcrs) p.moves) same
      (path_at approvals means.0.path means.0.path.outside (moves_of_facts facts) means.0.matching (of_facts facts of_pcrs)
      (listed_has (paths_of policy approvals) (position - 1) means.0.path digests means.0.listed)))
  pcrs-at-use policy approvals facts (Clash first second) of_pcrs digests means = tt
  pcrs-at-use policy approvals facts (ZeroInput string) of_pcrs digests means = tt
