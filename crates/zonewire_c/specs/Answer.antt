-- What a call returns to C, and what is then in the caller's buffer.
use Rattle.std.specs.Prelude.{◌≡◌, ◌⊎◌, ◌++◌, ℕ, List, length, drop, nat_lt, if◌then◌else◌}
use Rattle.zone_records.specs.Record.{Record}
use Rattle.zonewire_c.specs.Fault.{code_of, number_of}
use Rattle.zonewire_c.specs.declared.answer.Answer.{Answer}
use Rattle.zonewire_c.specs.declared.fault.Fault.{Fault}
use Rattle.zonewire_c.specs.declared.fault.Fault.TheVariants.{OutOfMemory}

-- The buffer after the octets are handed out: it begins with them if it has room, and is otherwise as it was.
abbrev pub filled : List ℕ → List ℕ → List ℕ
filled octets old = if nat_lt (length old) (length octets) then old else octets ++ drop (length octets) old

-- the answer that there is this number of octets or records
abbrev pub success : ℕ → Answer
success count = record { fault = 0; number = 0; count = count }

-- the answer that the call failed
abbrev pub failure : Fault → Answer
failure fault = record { fault = code_of fault; number = number_of fault; count = 0 }

-- The octets are handed out: the answer has their number, and they are in the buffer if they fit.
pub record HandsOut (octets old new : List ℕ) (answer : Answer) : Type 0 where
  pub answer_is : answer ≡ success (length octets)
  pub buffer : new ≡ filled octets old

-- The call fails: the answer has the fault's numbers, and the buffer is as it was.
pub record Fails (fault : Fault) (old new : List ℕ) (answer : Answer) : Type 0 where
  pub answer_is : answer ≡ failure fault
  pub buffer : new ≡ old

-- The call hands out octets for which this holds, or fails with a fault for which that holds.
abbrev pub AnswersBy : (List ℕ → Type 0) → (Fault → Type 0) → List ℕ → List ℕ → Answer → Type 0
AnswersBy Holds IsFault old new answer =
    ((octets : List ℕ) × Holds octets × HandsOut octets old new answer)
    ⊎ ((fault : Fault) × IsFault fault × Fails fault old new answer)

-- The same of a call that counts records.
abbrev pub CountsBy : (List Record → Type 0) → (Fault → Type 0) → Answer → Type 0
CountsBy Holds IsFault answer =
    ((records : List Record) × Holds records × (answer ≡ success (length records)))
    ⊎ ((fault : Fault) × IsFault fault × (answer ≡ failure fault))

-- The call hands out these octets, or is out of memory.
abbrev pub HandsOutOrLacksMemory : List ℕ → List ℕ → List ℕ → Answer → Type 0
HandsOutOrLacksMemory octets old new answer = HandsOut octets old new answer ⊎ Fails OutOfMemory old new answer
