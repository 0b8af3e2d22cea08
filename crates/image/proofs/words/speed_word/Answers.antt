-- Each case is its line of `speed_word`; the claim is `speed_words`.
-- Assumes nothing.
use Rattle.std.proofs.Common.{rules}
use Rattle.image.proofs.words.Speeds.{speed_words}
use Rattle.image.proofs.words.speed_word.Goals as goal

pub returns-in-Tenths : goal.returns-in-Tenths
returns-in-Tenths c = record { equation = search rules; claims = speed_words }

pub returns-in-TooFast : goal.returns-in-TooFast
returns-in-TooFast c = record { equation = search rules; claims = speed_words }

pub returns-in-TooSlow : goal.returns-in-TooSlow
returns-in-TooSlow c = record { equation = search rules; claims = speed_words }

pub returns-in-Refused : goal.returns-in-Refused
returns-in-Refused c = record { equation = search rules; claims = speed_words }
