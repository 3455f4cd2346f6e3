mod Strips
mod OneAccordion
