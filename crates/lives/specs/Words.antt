-- The kinds of words, and a life's words, by their numbers.
use Rattle.std.specs.Prelude.{ℕ}
use Rattle.lives.specs.declared.reading.LifeWord.{LifeWord}
use Rattle.lives.specs.declared.reading.LifeWord.TheVariants.{Serial as InSerial, Entry as InEntry, Exit as InExit, Status as InStatus}
use Rattle.lives.specs.declared.words.WordKind.{WordKind}
use Rattle.lives.specs.declared.words.WordKind.TheVariants.{Form, Count, Serial, Entry, Exit, Status}

abbrev pub kind_number : WordKind → ℕ
kind_number Form = 1
kind_number Count = 2
kind_number Serial = 3
kind_number Entry = 4
kind_number Exit = 5
kind_number Status = 6

-- which of the four words of a life it is
abbrev pub place_within : LifeWord → ℕ
place_within InSerial = 0
place_within InEntry = 1
place_within InExit = 2
place_within InStatus = 3
