-- The codes of commands, and their names in documents (TPM 2.0 Part 2, TPM_CC).
use Rattle.std.specs.Prelude.{ℕ, ◌==◌, List, [], ◌∷◌, Option, Some, None, find, codes, if◌then◌else◌}
use Rattle.tpol_base.specs.declared.command_code.CommandCode.{CommandCode}
use Rattle.tpol_base.specs.declared.command_code.CommandCode.TheVariants.{NvIncrement, NvWrite, PolicyNv, Duplicate, NvRead, PolicySecret, Hmac, Unseal, PolicySigned, ContextLoad, ContextSave, FlushContext, PolicyAuthorize, PolicyAuthValue, PolicyCommandCode, PolicyCounterTimer, PolicyCpHash, PolicyLocality, PolicyNameHash, PolicyOr, PolicyTicket, StartAuthSession, VerifySignature, PcrRead, PolicyPcr, PolicyRestart, PcrExtend, PolicyPhysicalPresence, PolicyDuplicationSelect, PolicyGetDigest, PolicyPassword, PolicyNvWritten, PolicyAuthorizeNv}

-- the command's code
abbrev pub number_of_code : CommandCode → ℕ
number_of_code NvIncrement = 0x134
number_of_code NvWrite = 0x137
number_of_code PolicyNv = 0x149
number_of_code Duplicate = 0x14b
number_of_code NvRead = 0x14e
number_of_code PolicySecret = 0x151
number_of_code Hmac = 0x155
number_of_code Unseal = 0x15e
number_of_code PolicySigned = 0x160
number_of_code ContextLoad = 0x161
number_of_code ContextSave = 0x162
number_of_code FlushContext = 0x165
number_of_code PolicyAuthorize = 0x16a
number_of_code PolicyAuthValue = 0x16b
number_of_code PolicyCommandCode = 0x16c
number_of_code PolicyCounterTimer = 0x16d
number_of_code PolicyCpHash = 0x16e
number_of_code PolicyLocality = 0x16f
number_of_code PolicyNameHash = 0x170
number_of_code PolicyOr = 0x171
number_of_code PolicyTicket = 0x172
number_of_code StartAuthSession = 0x176
number_of_code VerifySignature = 0x177
number_of_code PcrRead = 0x17e
number_of_code PolicyPcr = 0x17f
number_of_code PolicyRestart = 0x180
number_of_code PcrExtend = 0x182
number_of_code PolicyPhysicalPresence = 0x187
number_of_code PolicyDuplicationSelect = 0x188
number_of_code PolicyGetDigest = 0x189
number_of_code PolicyPassword = 0x18c
number_of_code PolicyNvWritten = 0x18f
number_of_code PolicyAuthorizeNv = 0x192

-- the commands in ascending order of their codes
abbrev pub commands : List CommandCode
commands =
    NvIncrement ∷ NvWrite ∷ PolicyNv ∷ Duplicate ∷ NvRead ∷ PolicySecret ∷ Hmac ∷ Unseal ∷ PolicySigned
    ∷ ContextLoad ∷ ContextSave ∷ FlushContext ∷ PolicyAuthorize ∷ PolicyAuthValue ∷ PolicyCommandCode
    ∷ PolicyCounterTimer ∷ PolicyCpHash ∷ PolicyLocality ∷ PolicyNameHash ∷ PolicyOr ∷ PolicyTicket
    ∷ StartAuthSession ∷ VerifySignature ∷ PcrRead ∷ PolicyPcr ∷ PolicyRestart ∷ PcrExtend
    ∷ PolicyPhysicalPresence ∷ PolicyDuplicationSelect ∷ PolicyGetDigest ∷ PolicyPassword ∷ PolicyNvWritten
    ∷ PolicyAuthorizeNv ∷ []

-- the command of this code
unfoldable pub code_of_number : ℕ → Option CommandCode
code_of_number number = find (λ command. number_of_code command == number) commands

-- the names of commands in documents, with their codes
abbrev pub command_codes : List (List ℕ × ℕ)
command_codes =
    (codes "StartAuthSession", 0x176) ∷ (codes "FlushContext", 0x165) ∷ (codes "PolicyRestart", 0x180)
    ∷ (codes "PolicyGetDigest", 0x189) ∷ (codes "PCR_Extend", 0x182) ∷ (codes "PCR_Read", 0x17e)
    ∷ (codes "VerifySignature", 0x177) ∷ (codes "Unseal", 0x15e) ∷ (codes "HMAC", 0x155) ∷ (codes "NV_Read", 0x14e)
    ∷ (codes "NV_Write", 0x137) ∷ (codes "NV_Increment", 0x134) ∷ (codes "Duplicate", 0x14b)
    ∷ (codes "PolicyNV", 0x149) ∷ (codes "PolicyCpHash", 0x16e) ∷ (codes "PolicyNameHash", 0x170)
    ∷ (codes "PolicyAuthValue", 0x16b) ∷ (codes "PolicyPassword", 0x18c) ∷ (codes "PolicyPhysicalPresence", 0x187)
    ∷ (codes "PolicyCommandCode", 0x16c) ∷ (codes "PolicyCounterTimer", 0x16d) ∷ (codes "PolicyLocality", 0x16f)
    ∷ (codes "PolicyPCR", 0x17f) ∷ (codes "PolicyDuplicationSelect", 0x188) ∷ (codes "PolicyNvWritten", 0x18f)
    ∷ (codes "PolicySigned", 0x160) ∷ (codes "PolicySecret", 0x151) ∷ (codes "PolicyAuthorize", 0x16a)
    ∷ (codes "PolicyOR", 0x171) ∷ (codes "PolicyAuthorizeNV", 0x192)
    ∷ (codes "Sign", 0x15d) ∷ (codes "RSA_Decrypt", 0x159) ∷ (codes "Certify", 0x148) ∷ (codes "Quote", 0x158)
    ∷ (codes "ActivateCredential", 0x147) ∷ (codes "ObjectChangeAuth", 0x150) ∷ (codes "Create", 0x153)
    ∷ (codes "Load", 0x157) ∷ (codes "Import", 0x156) ∷ (codes "NV_Extend", 0x136) ∷ (codes "NV_SetBits", 0x135)
    ∷ (codes "NV_ChangeAuth", 0x13b) ∷ (codes "NV_UndefineSpaceSpecial", 0x11f) ∷ []

-- the first of these words with this number
unfoldable pub find_name : List (List ℕ × ℕ) → ℕ → Option (List ℕ)
find_name [] code = None
find_name (word ∷ words) code = if word.1 == code then Some word.0 else find_name words code

-- the name of the command with this code
abbrev pub command_name : ℕ → Option (List ℕ)
command_name code = find_name command_codes code
