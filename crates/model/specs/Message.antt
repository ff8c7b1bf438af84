-- A message: a header of two words, and a body that holds the arguments.
use Rattle.std.specs.Prelude.{ℕ, ◌+◌, ◌/◌, ◌%◌, Bool, cond, ◌&&◌, List, length, drop, Some, None, Ok, Err, Option, Result, ◌==◌, nat_lt}
use Rattle.model.specs.declared.fault.Fault.{Fault}
use Rattle.model.specs.declared.header.Header.{Header}
use Rattle.model.specs.Fault.{fault}
use Rattle.model.specs.Word.{word}

-- the object is the first word; of the second, the upper half is the size in bytes, and the lower half is the opcode
abbrev pub header_words : List ℕ → Header
header_words bytes = record { object = word bytes 0; size = word bytes 1 / 0x1_0000; opcode = word bytes 1 % 0x1_0000 }

-- the header of a message that has one: under eight bytes have none
abbrev pub header_of : List ℕ → Option Header
header_of bytes = cond (nat_lt (length bytes) 8) None (Some (header_words bytes))

-- what follows the header
abbrev pub body_of : List ℕ → List ℕ
body_of bytes = drop 8 bytes

-- whether the size that a header says is that of the header and the body, and in whole words
abbrev pub sized_as : Header → List ℕ → Bool
sized_as h body = h.size == length body + 8 && h.size % 4 == 0

-- the answer to a message's header, where there is one, and its body
abbrev pub header_answer : Option Header → List ℕ → Result Header Fault
header_answer None body = Err (fault 4 3 0)
header_answer (Some h) body = cond (sized_as h body) (Ok h) (Err (fault 4 3 0))
