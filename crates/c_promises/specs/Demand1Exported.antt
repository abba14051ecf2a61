-- Demand 1 of the exported calls: whatever is passed, the number returned is 0 or one of document 01's for the call, and with one of these every struct lent is that
-- of a refusal and every buffer as it was. One field for each that libvinegarjar.a exports, by its name (those of libvinegarjar_table.a promise what
-- `vinegarjar_answer_ping` and `vinegarjar_answer_mailslot` do); `name_text` writes all of its text, with a refusal zeros.
use Rattle.std.specs.Prelude.{◌≡◌, true, List, ◌⊎◌, ℕ, ltb, length, replicate}
use Rattle.answers.specs.declared.Form.TheVariants.{Nt40, Response, Ex}
use Rattle.demands.specs.Demand1.{ForImage, ForFilter, ForValues, ForWriting, ForPing, ForReply, ForName, ForMessage, ForMessageWriting, ForMailslot}
use Rattle.octets.specs.Lists.{all}
use Rattle.c_promises.specs.Calls.{ExportedJudge, ExportedCheck, ExportedTakeApart, ExportedJudgeValues, ExportedWriteFilter, ExportedAnswerPing, ExportedReadMailslot, ExportedWriteMailslot, ExportedAnswerMailslot, ExportedRead, ExportedNameText}

-- done, or refused by such a number, with this left
abbrev pub DoneOr : (ℕ → Type 0) → ℕ → Type 0 → Type 0
DoneOr Number r Left = (r ≡ 0) ⊎ (Number r × Left)

abbrev pub zeros : ℕ → List ℕ
zeros n = replicate n 0

pub record Demand1Exported : Type 0 where
  pub vinegarjar_judge : (image : List ℕ) (r : ℕ) → ExportedJudge image r → (r ≡ 0) ⊎ ForImage r
  -- it refuses nothing: of all octets it leaves two sums of 16 bits
  pub vinegarjar_check : (octets check : List ℕ) → ExportedCheck octets check → (length check ≡ 2) × (all (λ n. ltb n 65536) check ≡ true)
  pub vinegarjar_take_apart : (filter request : List ℕ) (r : ℕ) → ExportedTakeApart filter request r → DoneOr ForFilter r (request ≡ zeros 24)
  pub vinegarjar_judge_values : (filter request : List ℕ) (version r : ℕ) → ExportedJudgeValues filter request version r → DoneOr ForValues r (version ≡ 0)
  pub vinegarjar_write_filter : (source request before after : List ℕ) (len r : ℕ) → ExportedWriteFilter source request before after len r → DoneOr ForWriting r ((len ≡ 0) × (after ≡ before))
  pub vinegarjar_answer_ping : (image client filter before after answer : List ℕ) (r : ℕ) → ExportedAnswerPing image client filter before after answer r → DoneOr ForPing r ((answer ≡ zeros 3) × (after ≡ before))
  pub vinegarjar_read_mailslot : (message members : List ℕ) (r : ℕ) → ExportedReadMailslot message members r → DoneOr ForMessage r (members ≡ zeros 15)
  pub vinegarjar_write_mailslot : (source members before after : List ℕ) (len r : ℕ) → ExportedWriteMailslot source members before after len r → DoneOr ForMessageWriting r ((len ≡ 0) × (after ≡ before))
  pub vinegarjar_answer_mailslot : (image client message before after answer : List ℕ) (r : ℕ) → ExportedAnswerMailslot image client message before after answer r → DoneOr ForMailslot r ((answer ≡ zeros 3) × (after ≡ before))
  pub vinegarjar_read_nt40 : (reply reading : List ℕ) (r : ℕ) → ExportedRead Nt40 0 reply reading r → DoneOr ForReply r (reading ≡ zeros 54)
  pub vinegarjar_read_response : (reply reading : List ℕ) (r : ℕ) → ExportedRead Response 0 reply reading r → DoneOr ForReply r (reading ≡ zeros 54)
  pub vinegarjar_read_ex : (version : ℕ) (reply reading : List ℕ) (r : ℕ) → ExportedRead Ex version reply reading r → DoneOr ForReply r (reading ≡ zeros 54)
  pub vinegarjar_name_text : (reply : List ℕ) (start : ℕ) (text : List ℕ) (len r : ℕ) → ExportedNameText reply start text len r → DoneOr ForName r ((text ≡ zeros 253) × (len ≡ 0))
