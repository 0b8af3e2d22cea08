-- What a bus write, a look and a bus read on the image leave of it and answer.
use Rattle.std.specs.Prelude.{List, ℕ, eqb, length}
use Rattle.answers.specs.Answers as answers
use Rattle.bits.specs.Bits.{choose}
use Rattle.w83782d_bus.specs.Bus.{write_of, look_of, read_of}
use Rattle.image.specs.Image.{Called, called, read_word}
use Rattle.w83782d_image.specs.Image.{image_length, state_in, on_image, after_write, after_read}

unfoldable pub call_write : List ℕ → ℕ → ℕ → Called
call_write im i v = on_image im (called im answers.wrong_length) (after_write im (write_of (state_in im) i v))

-- I-7: the word of a look, 8 with byte 0 for an image of another length; the image is lent to be read only
unfoldable pub call_look : List ℕ → ℕ → ℕ
call_look im i =
    choose (eqb (length im) image_length)
    (read_word (look_of (state_in im) i).answer (look_of (state_in im) i).byte)
    (read_word answers.wrong_length 0)

unfoldable pub call_read : List ℕ → ℕ → Called
call_read im i = on_image im (called im (read_word answers.wrong_length 0)) (after_read im (read_of (state_in im) i))
