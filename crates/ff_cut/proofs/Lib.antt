mod Reading
mod Items
mod OneReading
mod OnePattern
mod SomePattern
mod OneAnswer
