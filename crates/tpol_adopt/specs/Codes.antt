-- The names of commands that FAPI writes and the profile has not, with their codes (TPM 2.0 Part 2, TPM_CC).
use Rattle.std.specs.Prelude.{ℕ, List, [], ◌∷◌, codes}

abbrev pub other_codes : List (List ℕ × ℕ)
other_codes =
    (codes "EvictControl", 0x120) ∷ (codes "HierarchyControl", 0x121) ∷ (codes "NV_UndefineSpace", 0x122) ∷
    (codes "ChangeEPS", 0x124) ∷ (codes "ChangePPS", 0x125) ∷ (codes "Clear", 0x126) ∷
    (codes "ClearControl", 0x127) ∷ (codes "ClockSet", 0x128) ∷ (codes "HierarchyChangeAuth", 0x129) ∷
    (codes "NV_DefineSpace", 0x12a) ∷ (codes "PCR_Allocate", 0x12b) ∷ (codes "PCR_SetAuthPolicy", 0x12c) ∷
    (codes "PP_Commands", 0x12d) ∷ (codes "SetPrimaryPolicy", 0x12e) ∷ (codes "FieldUpgradeStart", 0x12f) ∷
    (codes "ClockRateAdjust", 0x130) ∷ (codes "CreatePrimary", 0x131) ∷ (codes "NV_GlobalWriteLock", 0x132) ∷
    (codes "GetCommandAuditDigest", 0x133) ∷ (codes "NV_WriteLock", 0x138) ∷
    (codes "DictionaryAttackLockReset", 0x139) ∷ (codes "DictionaryAttackParameters", 0x13a) ∷
    (codes "PCR_Event", 0x13c) ∷ (codes "PCR_Reset", 0x13d) ∷ (codes "SequenceComplete", 0x13e) ∷
    (codes "SetAlgorithmSet", 0x13f) ∷ (codes "SetCommandCodeAuditStatus", 0x140) ∷
    (codes "FieldUpgradeData", 0x141) ∷ (codes "IncrementalSelfTest", 0x142) ∷ (codes "SelfTest", 0x143) ∷
    (codes "Startup", 0x144) ∷ (codes "Shutdown", 0x145) ∷ (codes "StirRandom", 0x146) ∷
    (codes "CertifyCreation", 0x14a) ∷ (codes "GetTime", 0x14c) ∷ (codes "GetSessionAuditDigest", 0x14d) ∷
    (codes "NV_ReadLock", 0x14f) ∷ (codes "Rewrap", 0x152) ∷ (codes "ECDH_ZGen", 0x154) ∷
    (codes "HMAC_Start", 0x15b) ∷ (codes "SequenceUpdate", 0x15c) ∷ (codes "ContextLoad", 0x161) ∷
    (codes "ContextSave", 0x162) ∷ (codes "ECDH_KeyGen", 0x163) ∷ (codes "EncryptDecrypt", 0x164) ∷
    (codes "LoadExternal", 0x167) ∷ (codes "MakeCredential", 0x168) ∷ (codes "NV_ReadPublic", 0x169) ∷
    (codes "PolicyTicket", 0x172) ∷ (codes "ReadPublic", 0x173) ∷ (codes "RSA_Encrypt", 0x174) ∷
    (codes "ECC_Parameters", 0x178) ∷ (codes "FirmwareRead", 0x179) ∷ (codes "GetCapability", 0x17a) ∷
    (codes "GetRandom", 0x17b) ∷ (codes "GetTestResult", 0x17c) ∷ (codes "Hash", 0x17d) ∷
    (codes "ReadClock", 0x181) ∷ (codes "PCR_SetAuthValue", 0x183) ∷ (codes "NV_Certify", 0x184) ∷
    (codes "EventSequenceComplete", 0x185) ∷ (codes "HashSequenceStart", 0x186) ∷ (codes "TestParms", 0x18a) ∷
    (codes "Commit", 0x18b) ∷ (codes "ZGen_2Phase", 0x18d) ∷ (codes "EC_Ephemeral", 0x18e) ∷
    (codes "PolicyTemplate", 0x190) ∷ (codes "CreateLoaded", 0x191) ∷ (codes "EncryptDecrypt2", 0x193) ∷
    (codes "Vendor_TCG_Test", 0x20000000) ∷ []
