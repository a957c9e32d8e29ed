-- Worked lists of calls, with the answers and the bytes that the definitions give them.
use Rattle.std.specs.Prelude.{◌≡◌, ℕ, true, false, List, [], ◌∷◌, ◌++◌, length, take, replicate, codes, Ok, Err, Result}
use Rattle.refusal.specs.declared.Refusal.{Refusal}
use Rattle.refusal.specs.declared.Refusal.TheVariants.{AlreadyClosed, BadLine, FullShare, NoText, ShortShelf, ShortTarget, StillReading, TornText}
use Rattle.rules.specs.Meanings.{starlark_entry, starlark_section}
use Rattle.reader.specs.Runs.{says, shelf_after, target_of, targets_after}
use Rattle.reader.specs.Steps.{Setup}
use Rattle.reader.specs.declared.answer.Answer.TheVariants.{Opened, OtherOpened, Outside, PassedOver, Stored}
use Rattle.reader.specs.declared.calls.Call.{Call}
use Rattle.reader.specs.declared.calls.Call.TheVariants.{Ask, Close, Line}
use Rattle.reader.specs.declared.calls.Reply.{Reply}
use Rattle.reader.specs.declared.calls.Reply.TheVariants.{Answered, Body, Closed}

abbrev line : List ℕ → Call
line bytes = Line record { ref_ptr = (0, 0); now = bytes }

-- a question into the first so many bytes of the targets
abbrev ask : ℕ → ℕ → Call
ask i room = Ask i record { at = 0; len = room }

abbrev sections : Setup
sections =
    record {
      names = codes "args" ∷ codes "returns" ∷ [];
      share = 1024;
      fixed = record { strays_end = true; names_lowered = true };
      meaning = starlark_section;
    }

abbrev entries : ℕ → Setup
entries share =
    record {
      names = codes "user" ∷ codes "deny_group" ∷ [];
      share = share;
      fixed = record { strays_end = false; names_lowered = false };
      meaning = starlark_entry;
    }

-- the answers to the calls that come after the calls h
abbrev said : Setup → ℕ → List Call → List Call → List ℕ → List (Result Reply Refusal)
said q len h [] targets = []
said q len h (c ∷ cs) targets =
    (says q len h c (target_of c (targets_after q len h targets))).reply ∷ said q len (h ++ (c ∷ [])) cs targets

pub record Worked : Type 0 where
  pub asks : Setup
  pub len : ℕ
  pub calls : List Call
  pub replies : List (Result Reply Refusal)
  -- the first bytes of the shelf and the targets afterwards, all of which began as dots
  pub shelf : List ℕ
  pub targets : List ℕ

abbrev dots : ℕ → List ℕ
dots n = replicate n 46

abbrev pub Holds : Worked → Type 0
Holds w =
    (said w.asks w.len [] w.calls (dots (length w.targets)) ≡ w.replies)
    × (take (length w.shelf) (shelf_after w.asks w.len w.calls (dots 100)) ≡ w.shelf)
    × (targets_after w.asks w.len w.calls (dots (length w.targets)) ≡ w.targets)

-- A heading with a pasted long dash, and then a line that begins with a parameter's name.
abbrev pasted : Worked
pasted =
    record {
      asks = sections;
      len = 2048;
      calls =
          line (codes "Args:") ∷ line (codes "  deny_group: Kept out.")
          ∷ line (codes "Deny " ++ 226 ∷ 128 ∷ 148 ∷ codes " see:") ∷ line (codes "  deny_group: All may.")
          ∷ line (codes "Returns:") ∷ line (codes "  Yes.") ∷ ask 1 9 ∷ Close ∷ ask 0 9 ∷ ask 1 3 ∷ ask 1 9 ∷ line (codes "Args:") ∷ [];
      replies =
          Ok (Answered (Opened 0)) ∷ Ok (Answered Stored)
          ∷ Err (BadLine 5) ∷ Ok (Answered PassedOver)
          ∷ Ok (Answered (Opened 1)) ∷ Ok (Answered Stored) ∷ Err StillReading ∷ Ok Closed ∷ Err TornText ∷ Err ShortTarget ∷ Ok (Body 4) ∷ Err AlreadyClosed ∷ [];
      shelf = codes "  deny_group: Kept out." ++ 10 ∷ codes "......";
      targets = codes "Yes......";
    }

-- The same at the level of entries: the damage ends with the next entry, and a stray ends nothing.
abbrev entered : Worked
entered =
    record {
      asks = entries 1024;
      len = 2048;
      calls =
          line (codes "deny_group: Kept out,") ∷ line (codes "  always.") ∷ line (13 ∷ []) ∷ line (codes "  deny_group: no") ∷ line (codes "stray")
          ∷ line (codes "user: Login") ∷ line (codes "stray") ∷ line (codes "  name.") ∷ line (codes "other: x") ∷ line (codes "  y") ∷ Close ∷ ask 1 20 ∷ ask 2 20 ∷ ask 0 20 ∷ [];
      replies =
          Ok (Answered (Opened 1)) ∷ Ok (Answered Stored) ∷ Err (BadLine 0) ∷ Ok (Answered PassedOver) ∷ Ok (Answered PassedOver)
          ∷ Ok (Answered (Opened 0)) ∷ Ok (Answered Outside) ∷ Ok (Answered Stored) ∷ Ok (Answered OtherOpened) ∷ Ok (Answered Outside) ∷ Ok Closed ∷ Err TornText ∷ Err NoText ∷ Ok (Body 11) ∷ [];
      shelf = codes "      Login" ++ 10 ∷ codes "  name." ++ 10 ∷ codes "...";
      targets = codes "Login" ++ 10 ∷ codes "name..........";
    }

-- A share that is full, and a shelf that is one byte short.
abbrev full : Worked
full =
    record {
      asks = entries 1001;
      len = 2002;
      calls = line (codes "user: a") ∷ line (replicate 992 32) ∷ line [] ∷ line [] ∷ Close ∷ Close ∷ ask 0 9 ∷ ask 1 9 ∷ [];
      replies = Ok (Answered (Opened 0)) ∷ Ok (Answered Stored) ∷ Err FullShare ∷ Ok (Answered PassedOver) ∷ Ok Closed ∷ Err AlreadyClosed ∷ Err TornText ∷ Err NoText ∷ [];
      shelf = codes "      a" ++ 10 ∷ codes "     ";
      targets = [];
    }

abbrev lacking : Worked
lacking =
    record {
      asks = entries 1001;
      len = 2001;
      calls = line (codes "user: a") ∷ line (13 ∷ []) ∷ Close ∷ ask 0 9 ∷ [];
      replies = Err ShortShelf ∷ Err ShortShelf ∷ Ok Closed ∷ Err ShortShelf ∷ [];
      shelf = codes ".";
      targets = [];
    }

abbrev pub worked : List Worked
worked = pasted ∷ entered ∷ full ∷ lacking ∷ []
